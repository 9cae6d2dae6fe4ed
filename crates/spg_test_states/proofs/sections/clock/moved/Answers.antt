use Rattle.std.proofs.Common.{subst}
use Rattle.spg_forest.specs.Tuples.{Live}
use Rattle.spg_descend.specs.Carried.{carried}
use Rattle.spg_descend.specs.Rules.{IsRule}
use Rattle.spg_descend.specs.declared.rule.Rule.{Rule}
use Rattle.spg_core.proofs.Moves.{there_of, at_chain, not_empty, moves_below}
use Rattle.spg_test_states.proofs.sections.clock.moved.Goals as goal

pub rule_at-requires-clause-there : goal.rule_at-requires-clause-there
rule_at-requires-clause-there g c = there_of g.O.OpClass.meaning c.args.table.now c.args.descent.now c.requires.shape c.requires.stands

pub move_chain-requires-clause-spot : goal.move_chain-requires-clause-spot
move_chain-requires-clause-spot g c =
    let t = c.args.table.now in
    let d = c.args.descent.now in
    let (off, room, may) = subst (λ (r : Rule). IsRule t d.stand (Live (carried d) 0) r) c.in-Move.is c.rule_at.ensures in
    at_chain t d c.requires.stands off (moves_below t d may) (not_empty t d room)
