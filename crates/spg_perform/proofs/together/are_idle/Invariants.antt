use Rattle.std.proofs.Common.{◌≡◌, true, length, drop}
use Rattle.spg_histories.specs.Tasks.{lanes_tasks}
use Rattle.spg_perform.proofs.together.are_idle.Given as goal

abbrev pub invariant-loop-lane : goal.invariant-loop-lane
invariant-loop-lane l = length (lanes_tasks 0 0 true l.lanes) ≡ length (lanes_tasks 0 0 true (drop l.lane-index l.lanes))
