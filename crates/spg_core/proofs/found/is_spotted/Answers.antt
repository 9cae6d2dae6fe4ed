use Rattle.spg_core.proofs.Moves.{there_of}
use Rattle.spg_core.proofs.found.is_spotted.Goals as goal

pub rule_at-requires-clause-there : goal.rule_at-requires-clause-there
rule_at-requires-clause-there g c = there_of g.O.OpClass.meaning c.args.table.now c.args.descent.now c.requires.can.shape c.requires.can.stands
