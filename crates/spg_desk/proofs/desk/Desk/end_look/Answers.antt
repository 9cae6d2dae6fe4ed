use Rattle.std.proofs.Common.{◌≡◌, [], length, refl, sym, ap, ◌∙◌}
use Rattle.std.proofs.lemmas.List.{append-nil}
use Rattle.spg_turn.specs.Passes.{pass_view, held_view, held_state}
use Rattle.spg_calls.specs.Calls.{span_at}
use Rattle.spg_desk.proofs.Finding.{none_idle}
use Rattle.spg_desk.proofs.Moments.{ended_look}
use Rattle.spg_desk.proofs.Views.{rest_on}
use Rattle.spg_desk.proofs.desk.Desk.end_look.Goals as goal

pub leave-going-requires-clause-grown : goal.leave-going-requires-clause-grown
leave-going-requires-clause-grown g c = ([], c.requires.same ∙ sym (append-nil (held_view c.args.held).seen), tt)

pub returns-clause-looks : goal.returns-clause-looks
returns-clause-looks g c =
    let h = held_view c.args.held in
    let w = pass_view c.leave-going.result.0.pass in
    let s = held_state c.args.held in
    let long = c.len-at.ensures ∙ (ap length c.journal.ensures.events ∙ ap (λ z. length z.journal) c.state.ensures) in
    ended_look g.O.OpClass.meaning h w s.journal c.leave-going.result.1 c.len-at.result c.requires.same c.leave-going.ensures.seen c.leave-going.ensures.span long c.leave-going.ensures.told

pub invariant_of-result : goal.invariant_of-result
invariant_of-result g c =
    let m = g.O.OpClass.meaning in
    let h = held_view c.args.held in
    let w = pass_view c.leave-going.result.0.pass in
    let s = held_state c.args.held in
    let long = c.len-at.ensures ∙ (ap length c.journal.ensures.events ∙ ap (λ z. length z.journal) c.state.ensures) in
    let looks = ended_look m h w s.journal c.leave-going.result.1 c.len-at.result c.requires.same c.leave-going.ensures.seen c.leave-going.ensures.span long c.leave-going.ensures.told in
    record { idle = none_idle m h w (span_at c.len-at.result c.len-at.result) c.requires.idle looks.told }

pub returns-clause-free : goal.returns-clause-free
returns-clause-free g c =
    let m = g.O.OpClass.meaning in
    let h = held_view c.args.held in
    let w = pass_view c.leave-going.result.0.pass in
    let s = held_state c.args.held in
    let long = c.len-at.ensures ∙ (ap length c.journal.ensures.events ∙ ap (λ z. length z.journal) c.state.ensures) in
    let looks = ended_look m h w s.journal c.leave-going.result.1 c.len-at.result c.requires.same c.leave-going.ensures.seen c.leave-going.ensures.span long c.leave-going.ensures.told in
    rest_on m h w (span_at c.len-at.result c.len-at.result) c.leave-going.result.0.passed looks.told c.requires.idle
