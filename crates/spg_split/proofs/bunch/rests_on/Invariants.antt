use Rattle.std.proofs.Common.{◌≡◌, take}
use Rattle.spg_forest.specs.Links.{leaves_on}
use Rattle.spg_forest.specs.Divisions.{rests_of}
use Rattle.spg_split.proofs.bunch.rests_on.Given as goal

abbrev pub invariant-loop-index : goal.invariant-loop-index
invariant-loop-index l = l.rests ≡ rests_of (take l.index (leaves_on l.page.tuples))
