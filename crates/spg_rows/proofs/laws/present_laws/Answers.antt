use Rattle.spg_rows.proofs.Present.{present_counted}
use Rattle.spg_rows.proofs.laws.present_laws.Goals as goal

pub returns : goal.returns
returns g c = present_counted _ _ _ _
