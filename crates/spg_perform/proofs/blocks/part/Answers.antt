use Rattle.std.proofs.Common.{true, not, List, [], ◌∷◌, ◌∙◌, sym, ap, subst}
use Rattle.std.specs.Prelude.{All}
use Rattle.std.proofs.lemmas.List.Elements.{All-head}
use Rattle.spg_script.specs.declared.command.Command.{Command}
use Rattle.spg_script.specs.Blocks.{Part}
use Rattle.spg_script.specs.Parts.{lent_part}
use Rattle.spg_histories.specs.Tasks.{lanes_tasks}
use Rattle.spg_perform.specs.Session.{LeadsOn, standing}
use Rattle.spg_commands.specs.Acted.{CanBeDone, CanBlock}
use Rattle.spg_perform.proofs.blocks.part.Goals as goal

pub alone-requires-clause-can : goal.alone-requires-clause-can
alone-requires-clause-can g c =
    let speech = g.O.Spoken.speech in
    let can : CanBlock speech (lent_part (c.lent.result)) = subst (λ (p : Part). CanBlock speech p) (sym c.lent.ensures) c.requires.can in
    let each = subst (λ r. CanBlock speech (lent_part r)) c.in-Alone.is can in
    All-head (CanBeDone speech true) c.in-Alone.one.now [] (All-head (λ (lane : List Command). All (CanBeDone speech true) lane) (c.in-Alone.one.now ∷ []) [] each.each)

pub returns-in-Alone-clause-leads : goal.returns-in-Alone-clause-leads
returns-in-Alone-clause-leads g c = λ number.
    subst (λ (p : Part). LeadsOn g.O.OpClass.meaning g.O.Spoken.speech g.O.OpClass.code_number
    (standing c.args.state (g.M.Images.held c.args.images.now) (g.M.Images.faults c.args.images.now) c.args.book.now.records)
    (standing c.alone.new.state (g.M.Images.held c.alone.new.images) (g.M.Images.faults c.alone.new.images) c.alone.new.book.records) (lanes_tasks number 0 (not p.together) p.lanes))
    (sym (ap lent_part c.in-Alone.is) ∙ c.lent.ensures) (c.alone.ensures.leads number)

pub together-requires-clause-can : goal.together-requires-clause-can
together-requires-clause-can g c κs within =
    let can = subst (λ (p : Part). CanBlock g.O.Spoken.speech p) (sym c.lent.ensures ∙ ap lent_part c.in-Together.is) c.requires.can in
    can.each

pub returns-in-Together-clause-leads : goal.returns-in-Together-clause-leads
returns-in-Together-clause-leads g c = λ number.
    let held = g.M.Images.held c.args.images.now in
    let faults = g.M.Images.faults c.args.images.now in
    subst (λ (p : Part). LeadsOn g.O.OpClass.meaning g.O.Spoken.speech g.O.OpClass.code_number
    (standing c.args.state held faults c.args.book.now.records) (standing c.together.result held faults c.together.new.book.records) (lanes_tasks number 0 (not p.together) p.lanes))
    (sym (ap lent_part c.in-Together.is) ∙ c.lent.ensures) (c.together.ensures.leads number held faults)
