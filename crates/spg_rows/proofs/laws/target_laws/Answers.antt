use Rattle.spg_rows.proofs.Targets.{targets_agree, kills_stay}
use Rattle.spg_rows.proofs.laws.target_laws.Goals as goal

pub returns : goal.returns
returns g c = record { agree = targets_agree; stay = kills_stay }
