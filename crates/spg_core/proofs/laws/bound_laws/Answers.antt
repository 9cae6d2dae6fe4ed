use Rattle.spg_core.proofs.Bounded.{runs_bounded}
use Rattle.spg_core.proofs.laws.bound_laws.Goals as goal

pub returns : goal.returns
returns g c = runs_bounded {O = g.row.O.Denot} g.O.OpClass.meaning g.O.OpClass.keeps g.O.OpClass.codes g.O.OpClass.adds g.O.OpClass.splits
