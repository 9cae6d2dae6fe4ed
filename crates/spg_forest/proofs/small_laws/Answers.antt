use Rattle.spg_forest.proofs.Examples.{new_index, one_entry}
use Rattle.spg_forest.proofs.RootDivision.{root_divided}
use Rattle.spg_forest.proofs.small_laws.Goals as goal

pub returns : goal.returns
returns g c = record { new_index = new_index _; one_entry = one_entry _; root_divided = root_divided _ }
