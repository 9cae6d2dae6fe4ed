use Rattle.std.proofs.Common.{◌≡◌, replicate}
use Rattle.spg_split.proofs.division.all_the_same.Given as goal

abbrev pub invariant-loop-node : goal.invariant-loop-node
invariant-loop-node l = l.labels ≡ replicate l.node l.label
