use Rattle.std.specs.Prelude.{ℕ, ◌+◌, ◌<◌, ◌^◌}
use Rattle.spg_seats.specs.Descending.{ChangesHeld}
use Rattle.spg_core.specs.Stepping.{Grows}
use Rattle.spg_core.specs.Stage.{IsInserting}
use Rattle.spg_core.specs.Seen.{stage_at}
use Rattle.spg_core.specs.Sections.{OthersHold}
use Rattle.spg_core.specs.Through.{StillInserts, StepsOn, OthersStay}
use Rattle.spg_core.specs.Ends.{SeatEnds}
use Rattle.spg_core.proofs.state.State.insert_through.Given as goal

abbrev pub invariant-loop-turn : goal.invariant-loop-turn
invariant-loop-turn g l = record {
  goes : StillInserts l.initial.self l.self l.seat;
  steps : StepsOn g.O.OpClass.meaning l.initial.self l.self l.seat;
  stay : OthersStay l.initial.self l.self l.seat;
  others : OthersHold l.initial.self.table l.self.table l.seat;
  within : ChangesHeld l.initial.self.table l.self.table l.seat;
  grows : Grows l.initial.self.table l.self.table;
  inserting : IsInserting (stage_at l.self l.seat);
  ends : (k : ℕ) × (k + l._turn < 2 ^ 64) × SeatEnds g.O.OpClass.meaning l.self l.seat k;
}
