use Rattle.std.proofs.Common.{rules}
use Rattle.spg_core.proofs.Moves.{there_of}
use Rattle.spg_core.proofs.Looks.{split_spot}
use Rattle.spg_core.proofs.found.is_bunch.Goals as goal

pub rule_at-requires-clause-there : goal.rule_at-requires-clause-there
rule_at-requires-clause-there g c = there_of g.O.OpClass.meaning c.args.table.now c.args.descent.now c.requires.can.shape c.requires.can.stands

pub is_cut-requires-clause-spot : goal.is_cut-requires-clause-spot
is_cut-requires-clause-spot g c = split_spot g.O.OpClass.meaning c.args.table.now c.args.descent.now c.requires.can.shape c.requires.can.stands (search rules)
