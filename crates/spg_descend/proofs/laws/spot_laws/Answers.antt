use Rattle.spg_descend.proofs.Starts.{spots_are_there}
use Rattle.spg_descend.proofs.laws.spot_laws.Goals as goal

pub returns : goal.returns
returns g c = spots_are_there _
