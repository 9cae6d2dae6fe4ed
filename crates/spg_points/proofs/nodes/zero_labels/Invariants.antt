use Rattle.std.proofs.Common.{◌≡◌, pos}
use Rattle.std.specs.Prelude.{replicate}
use Rattle.spg_points.proofs.nodes.zero_labels.Given as goal

abbrev pub invariant-loop : goal.invariant-loop
invariant-loop l = l.labels ≡ replicate l.counter (pos 0)
