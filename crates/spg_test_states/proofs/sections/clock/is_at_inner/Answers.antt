use Rattle.spg_core.proofs.Moves.{there_of}
use Rattle.spg_test_states.proofs.sections.clock.is_at_inner.Goals as goal

pub rule_at-requires-clause-there : goal.rule_at-requires-clause-there
rule_at-requires-clause-there g c = there_of g.O.OpClass.meaning c.args.table.now c.args.descent.now c.requires.shape c.requires.stands
