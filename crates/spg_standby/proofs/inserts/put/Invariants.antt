use Rattle.std.specs.Prelude.{ℕ, ◌≡◌, ◌+◌, ◌<◌, ◌^◌}
use Rattle.std.specs.VecDeque.{deque_len, deque_capacity}
use Rattle.spg_core.specs.Stage.{IsInserting}
use Rattle.spg_core.specs.Seen.{stage_at}
use Rattle.spg_core.specs.Stepping.{Grows}
use Rattle.spg_core.specs.Through.{StillInserts}
use Rattle.spg_core.specs.Ends.{SeatEnds}
use Rattle.spg_standby.specs.Pair.{IsPaired}
use Rattle.spg_standby.specs.Finding.{IsIdle}
use Rattle.spg_standby.proofs.inserts.put.Given as goal

abbrev pub invariant-loop-turn : goal.invariant-loop-turn
invariant-loop-turn g l = record {
  paired : IsPaired g.O.OpClass.meaning l.state l.standby.follower l.standby.queue.records.items;
  idle : IsIdle l.standby.follower;
  place : deque_len l.standby.queue.records < deque_capacity l.standby.queue.records;
  lag : l.standby.lag ≡ l.initial.standby.lag;
  goes : StillInserts l.initial.state l.state l.seat;
  inserting : IsInserting (stage_at l.state l.seat);
  grows : Grows l.initial.state.table l.state.table;
  ends : (k : ℕ) × (k + l._turn < 2 ^ 64) × SeatEnds g.O.OpClass.meaning l.state l.seat k;
}
