use Rattle.std.proofs.Common.{◌≡◌, take}
use Rattle.spg_points.proofs.rests.copy_all.Given as goal

abbrev pub invariant-loop-rest : goal.invariant-loop-rest
invariant-loop-rest l = l.copies ≡ take l.rest-index l.rests
