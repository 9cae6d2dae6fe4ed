use Rattle.std.proofs.Common.{◌≡◌, ◌≤◌, map, None}
use Rattle.spg_seats.specs.Waiting.{is_sweeping, lowest_seat}
use Rattle.spg_core.specs.Slot.{stage_of}
use Rattle.spg_core.proofs.waiting.vacuum_seat.Given as goal

abbrev pub invariant-loop-number : goal.invariant-loop-number
invariant-loop-number g l = (lowest_seat is_sweeping l.number (map stage_of l.slots) ≡ None) × (l.number ≤ 64)
