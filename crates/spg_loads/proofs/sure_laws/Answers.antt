use Rattle.spg_loads.proofs.Sure.{sure_says}
use Rattle.spg_loads.proofs.sure_laws.Goals as goal

pub returns : goal.returns
returns g c = sure_says _ _ _ _
