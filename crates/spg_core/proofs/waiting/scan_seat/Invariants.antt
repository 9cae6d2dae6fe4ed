use Rattle.std.proofs.Common.{◌≡◌, ◌≤◌, map, None}
use Rattle.spg_seats.specs.Waiting.{reads_at, lowest_seat}
use Rattle.spg_core.specs.Slot.{stage_of}
use Rattle.spg_core.proofs.waiting.scan_seat.Given as goal

abbrev pub invariant-loop-number : goal.invariant-loop-number
invariant-loop-number g l = (lowest_seat (reads_at l.at) l.number (map stage_of l.slots) ≡ None) × (l.number ≤ 64)
