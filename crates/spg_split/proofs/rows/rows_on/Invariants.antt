use Rattle.std.proofs.Common.{◌≡◌, take}
use Rattle.spg_forest.specs.Links.{leaves_on}
use Rattle.spg_split.specs.Dividing.{rows_of}
use Rattle.spg_split.proofs.rows.rows_on.Given as goal

abbrev pub invariant-loop-index : goal.invariant-loop-index
invariant-loop-index l = l.rows ≡ rows_of (take l.index (leaves_on l.page.tuples))
