use Rattle.spg_forest.proofs.Puts.{puts_behind, puts_at_dead, puts_at_root, puts_at_empty}
use Rattle.spg_forest.proofs.put_leaf_laws.Goals as goal

pub returns : goal.returns
returns g c = record { behind = puts_behind _; at_dead = puts_at_dead _; at_root = puts_at_root _; at_empty = puts_at_empty _ }
