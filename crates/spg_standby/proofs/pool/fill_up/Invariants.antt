use Rattle.std.specs.Prelude.{◌≤◌, ◌-◌, length}
use Rattle.spg_standby.proofs.pool.fill_up.Given as goal

abbrev pub invariant-loop-alloc : goal.invariant-loop-alloc
invariant-loop-alloc l = length l.pages.items ≤ 8

abbrev pub decreases-loop-alloc : goal.decreases-loop-alloc
decreases-loop-alloc l = 8 - length l.pages.items
