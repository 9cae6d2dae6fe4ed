use Rattle.std.proofs.Common.{ℕ, true, List, [], ◌∷◌, ◌++◌, sym, subst}
use Rattle.spg_report.specs.declared.record.Record.{Record}
use Rattle.spg_perform.specs.Session.{LeadsOn, standing}
use Rattle.spg_commands.specs.Acted.{task_of}
use Rattle.spg_perform.proofs.blocks.alone.Goals as goal

pub returns-clause-leads : goal.returns-clause-leads
returns-clause-leads g c = λ number.
    let m = g.O.OpClass.meaning in
    let speech = g.O.Spoken.speech in
    let code = g.O.OpClass.code_number in
    let before = standing c.args.state.now (g.M.Images.held c.args.images.now) (g.M.Images.faults c.args.images.now) c.args.book.now.records in
    let after = λ (rs : List Record). standing c.command.new.state (g.M.Images.held c.command.new.images) (g.M.Images.faults c.command.new.images) rs in
    subst (λ (rs : List Record). LeadsOn m speech code before (after rs) (task_of number 0 true c.args.one.now ∷ [])) (sym c.add.ensures.records)
    (subst (λ (n : ℕ). LeadsOn m speech code before (after (c.args.book.now.records ++ c.command.result ∷ [])) (task_of number n true c.args.one.now ∷ [])) c.first.ensures (c.command.ensures.leads number c.args.book.now.records))
