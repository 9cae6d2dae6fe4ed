use Rattle.std.proofs.Common.{◌≡◌, ◌+◌, ◌++◌, true, length, take}
use Rattle.spg_histories.specs.Tasks.{lanes_tasks}
use Rattle.spg_perform.specs.Lanes.{refusals}
use Rattle.spg_perform.proofs.together.refuse_all.Given as goal

abbrev pub invariant-loop-lane : goal.invariant-loop-lane
invariant-loop-lane l = record {
  records : l.book.records ≡ l.fn.book.records ++ refusals l.at (length (lanes_tasks 0 0 true (take l.lane-index l.lanes)));
  room : l.book.spare + length (lanes_tasks 0 0 true (take l.lane-index l.lanes)) ≡ l.fn.book.spare;
}
