use Rattle.spg_forest.proofs.Changes.{divides_here, divides_here_without, divides, divides_without}
use Rattle.spg_forest.proofs.divide_laws.Goals as goal

pub returns : goal.returns
returns g c = record { here = divides_here _; here_without = divides_here_without _; below = divides _; below_without = divides_without _ }
