use Rattle.spg_core.proofs.Runs.{runs_keep}
use Rattle.spg_core.proofs.laws.call_laws.Goals as goal

pub returns : goal.returns
returns g c = runs_keep {O = g.row.O.Denot} g.O.OpClass.meaning g.O.OpClass.keeps g.O.OpClass.codes
