use Rattle.spg_forest.proofs.Changes.{splits_tuple, adds_node, moves_node, moves_chain}
use Rattle.spg_forest.proofs.change_tree_laws.Goals as goal

pub returns : goal.returns
returns g c = record { splits_tuple = splits_tuple _; adds_node = adds_node _; moves_node = moves_node _; moves_chain = moves_chain _ }
