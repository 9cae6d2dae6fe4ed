use Rattle.std.proofs.Common.{◌≡◌, true, length, take}
use Rattle.spg_histories.specs.Tasks.{lanes_tasks}
use Rattle.spg_perform.proofs.count.count_lanes.Given as goal

abbrev pub invariant-loop-lane : goal.invariant-loop-lane
invariant-loop-lane l = l.count ≡ length (lanes_tasks 0 0 true (take l.lane-index l.lanes))
