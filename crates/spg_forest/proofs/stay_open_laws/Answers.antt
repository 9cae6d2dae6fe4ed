use Rattle.spg_forest.proofs.Keeping.{keeps_coming, leaves_coming, has_child}
use Rattle.spg_forest.proofs.stay_open_laws.Goals as goal

pub returns : goal.returns
returns g c = record { keeps_coming = keeps_coming _; leaves_coming = leaves_coming _; has_child = has_child _ }
