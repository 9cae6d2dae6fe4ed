use Rattle.spg_cover.proofs.Run.{sweeps_all}
use Rattle.spg_cover.proofs.whole_laws.Goals as goal

pub returns : goal.returns
returns g c = sweeps_all _
