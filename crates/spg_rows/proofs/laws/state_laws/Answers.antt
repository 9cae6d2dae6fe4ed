use Rattle.spg_rows.proofs.Histories.{states_agree}
use Rattle.spg_rows.proofs.laws.state_laws.Goals as goal

pub returns : goal.returns
returns g c = states_agree _ _ _ _
