use Rattle.spg_forest.proofs.Laws.{links_laid_out_proof, links_are_tree_proof, tree_is_linked_proof}
use Rattle.spg_forest.proofs.shape_laws.Goals as goal

pub returns : goal.returns
returns c = record { laid_out = links_laid_out_proof; is_tree = links_are_tree_proof; from_tree = tree_is_linked_proof }
