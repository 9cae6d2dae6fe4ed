use Rattle.std.proofs.Common.{◌≡◌, ◌++◌, ◌∷◌, [], take}
use Rattle.spg_forest.specs.Divisions.{rests_of}
use Rattle.spg_forest.specs.Links.{leaves_on}
use Rattle.spg_descend.specs.Carried.{carried}
use Rattle.spg_core.proofs.comparing.are_rests_on.Given as goal

abbrev pub invariant-loop-index : goal.invariant-loop-index
invariant-loop-index g l = take l.index l.rests ≡ take l.index (rests_of (leaves_on l.page.tuples ++ carried l.descent ∷ []))
