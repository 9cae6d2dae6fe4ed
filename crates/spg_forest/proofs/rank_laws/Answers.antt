use Rattle.spg_forest.proofs.Ranks.{each_is_ranked}
use Rattle.spg_forest.proofs.rank_laws.Goals as goal

pub returns : goal.returns
returns g c = each_is_ranked _
