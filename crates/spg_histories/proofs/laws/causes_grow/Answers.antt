use Rattle.spg_histories.proofs.laws.causes_grow.Goals as goal
use Rattle.spg_histories.proofs.Causes.{causes_grow}

pub returns : goal.returns
returns g c = causes_grow _ _ _ _
