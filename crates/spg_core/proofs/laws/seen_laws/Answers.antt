use Rattle.spg_core.proofs.Calls.{calls_keep}
use Rattle.spg_core.proofs.laws.seen_laws.Goals as goal

pub returns : goal.returns
returns g c = calls_keep {O = g.row.O.Denot} g.O.OpClass.meaning g.O.OpClass.keeps g.O.OpClass.codes g.O.OpClass.adds g.O.OpClass.splits
