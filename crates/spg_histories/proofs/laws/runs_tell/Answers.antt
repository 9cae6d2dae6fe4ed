use Rattle.spg_histories.proofs.laws.runs_tell.Goals as goal
use Rattle.spg_histories.proofs.Telling.{runs_tell}

pub returns : goal.returns
returns g c = runs_tell _ _ _ _ _
