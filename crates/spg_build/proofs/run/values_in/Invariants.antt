use Rattle.std.proofs.Common.{◌≡◌, ◌+◌, ◌-◌, ◌^◌, ◌≤◌, min, drop}
use Rattle.spg_build.specs.Runs.{values_in}
use Rattle.spg_build.proofs.run.values_in.Given as goal

abbrev pub invariant-loop-group : goal.invariant-loop-group
invariant-loop-group g l = (l.values ≤ 2 ^ 64 - 1) × (min (l.values + values_in (drop l.group-index l.groups)) (2 ^ 64 - 1) ≡ min (values_in l.groups) (2 ^ 64 - 1))
