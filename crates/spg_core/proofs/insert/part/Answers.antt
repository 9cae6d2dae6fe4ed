use Rattle.spg_core.proofs.Looks.{split_spot}
use Rattle.spg_core.proofs.insert.part.Goals as goal

pub bunch_at-requires-clause-spot : goal.bunch_at-requires-clause-spot
bunch_at-requires-clause-spot g c = split_spot g.O.OpClass.meaning c.args.table.now c.args.descent.now c.requires.can.shape c.requires.can.stands c.requires.rule
