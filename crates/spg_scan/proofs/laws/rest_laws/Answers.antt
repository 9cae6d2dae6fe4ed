use Rattle.spg_scan.proofs.RestLaws.{opens_at_rest, keeps_at_rest}
use Rattle.spg_scan.proofs.laws.rest_laws.Goals as goal

pub returns : goal.returns
returns g c = record { opens = opens_at_rest _; keeps = keeps_at_rest _ }
