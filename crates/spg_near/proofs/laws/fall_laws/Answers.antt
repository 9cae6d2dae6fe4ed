use Rattle.spg_near.proofs.Falling.{near_falls}
use Rattle.spg_near.proofs.laws.fall_laws.Goals as goal

pub returns : goal.returns
returns g c = near_falls g.O.OpClass.meaning g.O.NearClass.box_below
