use Rattle.std.proofs.Common.{◌≡◌, [], replicate}
use Rattle.spg_split.proofs.division.empty_rests.Given as goal

abbrev pub invariant-loop-value : goal.invariant-loop-value
invariant-loop-value l = l.rests ≡ replicate l.value []
