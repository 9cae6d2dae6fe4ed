use Rattle.spg_report.proofs.Plain.{plain_without}
use Rattle.spg_report.proofs.laws.plain_without_values.Goals as goal

pub returns : goal.returns
returns g c = plain_without _ _ _ _
