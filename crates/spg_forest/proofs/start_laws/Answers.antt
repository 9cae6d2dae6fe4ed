use Rattle.spg_forest.proofs.NewIndex.{new_shaped, new_entries}
use Rattle.spg_forest.proofs.Beginning.{start_is_shaped_proof, one_leaf_is_shaped_proof}
use Rattle.spg_forest.proofs.start_laws.Goals as goal

pub returns : goal.returns
returns c = record { new_index = λ C. (new_shaped C, new_entries C); empty = start_is_shaped_proof; one_leaf = one_leaf_is_shaped_proof }
