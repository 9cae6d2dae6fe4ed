use Rattle.std.specs.Prelude.{◌≤◌}
use Rattle.std.specs.VecDeque.{deque_len}
use Rattle.spg_standby.specs.Pair.{IsPaired}
use Rattle.spg_standby.specs.Finding.{ReadsOn}
use Rattle.spg_standby.specs.Progress.{reads_left}
use Rattle.spg_standby.proofs.catching.read_some.Given as goal

abbrev pub invariant-loop-seat : goal.invariant-loop-seat
invariant-loop-seat g l = IsPaired g.O.OpClass.meaning l.state l.follower l.queue.records.items × ReadsOn l.initial.follower l.follower l.seat × (deque_len l.queue.records ≤ deque_len l.initial.queue.records)

abbrev pub decreases-loop-seat : goal.decreases-loop-seat
decreases-loop-seat g l = reads_left g.O.OpClass.meaning l.follower l.seat
