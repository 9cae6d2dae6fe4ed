use Rattle.spg_cover.proofs.Examples.{one_swept, redirects_age}
use Rattle.spg_cover.proofs.small_laws.Goals as goal

pub returns : goal.returns
returns g c = record { one_swept = one_swept _; redirects = redirects_age }
