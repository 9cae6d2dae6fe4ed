use Rattle.spg_vacuum.proofs.Keeping.{none_left}
use Rattle.spg_vacuum.proofs.vacuum.Vacuum.finish.Goals as goal

pub returns-clause-none : goal.returns-clause-none
returns-clause-none g c = none_left g.O.OpClass.meaning c.args.table.now c.args.self.now c.requires
