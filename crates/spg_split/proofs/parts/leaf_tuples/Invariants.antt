use Rattle.std.proofs.Common.{◌≡◌, take}
use Rattle.spg_forest.specs.Pages.{all_live}
use Rattle.spg_split.specs.Placing.{leaves_with}
use Rattle.spg_split.proofs.parts.leaf_tuples.Given as goal

abbrev pub invariant-loop-index : goal.invariant-loop-index
invariant-loop-index l = l.leaves ≡ all_live (leaves_with (take l.index l.rows) (take l.index l.rests))
