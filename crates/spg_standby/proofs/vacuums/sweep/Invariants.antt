use Rattle.std.specs.Prelude.{◌≡◌, ◌<◌}
use Rattle.std.specs.VecDeque.{deque_len, deque_capacity}
use Rattle.spg_core.specs.Seen.{stage_at}
use Rattle.spg_whole.specs.Underway.{SweepsAlone, blocks_left}
use Rattle.spg_standby.specs.Pair.{IsPaired}
use Rattle.spg_standby.specs.Finding.{IsIdle}
use Rattle.spg_standby.proofs.vacuums.sweep.Given as goal

abbrev pub invariant-loop-room : goal.invariant-loop-room
invariant-loop-room g l = record {
  paired : IsPaired g.O.OpClass.meaning l.state l.standby.follower l.standby.queue.records.items;
  idle : IsIdle l.standby.follower;
  place : deque_len l.standby.queue.records < deque_capacity l.standby.queue.records;
  lag : l.standby.lag ≡ l.initial.standby.lag;
  sweeps : SweepsAlone l.initial.state l.state l.seat;
}

abbrev pub decreases-loop-room : goal.decreases-loop-room
decreases-loop-room g l = blocks_left l.state.table (stage_at l.state l.seat)
