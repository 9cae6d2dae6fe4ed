use Rattle.std.proofs.Common.{rules, ◌≡◌, true, false, length, map, sym, ap, ◌∙◌, subst, arith, ◌++◌}
use Rattle.std.proofs.lemmas.Bool.{eqb-true}
use Rattle.spg_core.specs.Seen.{Seen, past_of}
use Rattle.spg_histories.specs.Tasks.{lanes_tasks}
use Rattle.spg_perform.specs.Session.{AllClosed, LeadsOn, standing}
use Rattle.spg_perform.specs.Lanes.{refusals}
use Rattle.spg_perform.specs.Posts.{RanBeside}
use Rattle.spg_perform.proofs.LaneCalls.{records_long}
use Rattle.spg_perform.proofs.TogetherLeads.{leads_beside, leads_refused, leads_none, not_idle}
use Rattle.spg_perform.proofs.together.together.Goals as goal

pub returns-then-are_idle-clause-leads : goal.returns-then-are_idle-clause-leads
returns-then-are_idle-clause-leads g c = λ number held faults.
    leads_none g.O.OpClass.meaning g.O.Spoken.speech g.O.OpClass.code_number c.args.state held faults c.args.book.now.records number c.args.lanes.now
    (eqb-true (length (lanes_tasks 0 0 true c.args.lanes.now)) 0 (sym c.are_idle.ensures ∙ c.if-are_idle.true))

pub note_all-requires : goal.note_all-requires
note_all-requires g c =
    let ran : RanBeside g.O.OpClass.meaning g.O.Spoken.speech c.args.state c.in-Ok.after c.args.lanes.now (map (λ p. p.task.records.items) c.in-Ok.posts.items) = (search rules) in
    record { room = omega (arith, records_long g.O.OpClass.meaning g.O.Spoken.speech c.args.state.origin 0 true 0 c.args.state.journal c.in-Ok.after.journal c.args.lanes.now (map (λ p. p.task.records.items) c.in-Ok.posts.items) ran.done, c.requires.room) }

pub returns-in-Ok-clause-leads : goal.returns-in-Ok-clause-leads
returns-in-Ok-clause-leads g c = λ number held faults.
    let ran : RanBeside g.O.OpClass.meaning g.O.Spoken.speech c.args.state c.in-Ok.after c.args.lanes.now (map (λ p. p.task.records.items) c.in-Ok.posts.items) = (search rules) in
    leads_beside g.O.OpClass.meaning g.O.Spoken.speech g.O.OpClass.code_number c.args.state c.in-Ok.after held faults c.args.book.now.records number c.args.lanes.now (map (λ p. p.task.records.items) c.in-Ok.posts.items) c.note_all.new.book.records
    c.requires.can (not_idle (length (lanes_tasks 0 0 true c.args.lanes.now)) c.are_idle.result c.are_idle.ensures c.if-are_idle.false) ran c.shows.ensures.right c.shows.ensures.drops c.note_all.ensures.records

pub returns-in-Ok-clause-room : goal.returns-in-Ok-clause-room
returns-in-Ok-clause-room g c =
    let ran : RanBeside g.O.OpClass.meaning g.O.Spoken.speech c.args.state c.in-Ok.after c.args.lanes.now (map (λ p. p.task.records.items) c.in-Ok.posts.items) = (search rules) in
    omega (arith, records_long g.O.OpClass.meaning g.O.Spoken.speech c.args.state.origin 0 true 0 c.args.state.journal c.in-Ok.after.journal c.args.lanes.now (map (λ p. p.task.records.items) c.in-Ok.posts.items) ran.done, c.note_all.ensures.room)

pub returns-in-Err-clause-leads : goal.returns-in-Err-clause-leads
returns-in-Err-clause-leads g c = λ number held faults.
    let m = g.O.OpClass.meaning in
    let speech = g.O.Spoken.speech in
    let code = g.O.OpClass.code_number in
    let before = c.in-Err.before in
    let records = c.args.book.now.records in
    let noted = c.refuse_all.new.book.records in
    let same : before ≡ c.args.state = (search rules) in
    let closed : AllClosed (past_of before) = subst (λ (s : Seen g.row.O.Denot g.row.O-Key.Denot g.row.O-Recon.Denot g.row.O-Cond.Denot). AllClosed (past_of s)) (sym same) c.requires.closed in
    let are : noted ≡ records ++ refusals (length before.journal) (length (lanes_tasks 0 0 true c.args.lanes.now)) =
    c.refuse_all.ensures.records ∙ ap (λ at. records ++ refusals at (length (lanes_tasks 0 0 true c.args.lanes.now))) c.position.ensures.count in
    subst (λ (s : Seen g.row.O.Denot g.row.O-Key.Denot g.row.O-Recon.Denot g.row.O-Cond.Denot). LeadsOn m speech code (standing s held faults records) (standing before held faults noted) (lanes_tasks number 0 false c.args.lanes.now)) same
    (leads_refused m speech code before held faults records number c.args.lanes.now noted c.requires.can c.shows-in-Err.ensures.right c.shows-in-Err.ensures.drops closed are)

pub returns-in-Err-clause-closed : goal.returns-in-Err-clause-closed
returns-in-Err-clause-closed g c =
    let same : c.in-Err.before ≡ c.args.state = (search rules) in
    subst (λ (s : Seen g.row.O.Denot g.row.O-Key.Denot g.row.O-Recon.Denot g.row.O-Cond.Denot). AllClosed (past_of s)) (sym same) c.requires.closed
