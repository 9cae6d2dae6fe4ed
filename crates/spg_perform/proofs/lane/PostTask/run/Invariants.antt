use Rattle.std.proofs.Common.{◌≡◌, ◌≤◌, length, vec_capacity, take}
use Rattle.spg_share.specs.Seats.{seat_name, knows}
use Rattle.spg_perform.specs.Lanes.{Went}
use Rattle.spg_perform.proofs.lane.PostTask.run.Given as goal

abbrev pub invariant-loop-command : goal.invariant-loop-command
invariant-loop-command g l = record {
  same : seat_name l.seat ≡ seat_name l.initial.seat;
  room : length l.commands ≤ vec_capacity l.self.records;
  went : Went g.O.OpClass.meaning g.O.Spoken.speech (knows l.initial.seat) (knows l.seat) (take l.command-index l.commands) l.self.records.items;
}
