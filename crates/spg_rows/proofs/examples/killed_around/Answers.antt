use Rattle.spg_rows.proofs.SmallTargets.{killed_around}
use Rattle.spg_rows.proofs.examples.killed_around.Goals as goal

pub returns : goal.returns
returns g c early late key = killed_around early late key
