use Rattle.std.proofs.Common.{◌≡◌, ◌≤◌, map, drop, length}
use Rattle.spg_seats.specs.Slots.{horizon_of}
use Rattle.spg_core.specs.Slot.{stage_of}
use Rattle.spg_core.proofs.waiting.horizon.Given as goal

abbrev pub invariant-loop-slot : goal.invariant-loop-slot
invariant-loop-slot g l = (horizon_of (map stage_of (drop l.slot-index l.slots)) l.least ≡ horizon_of (map stage_of l.slots) l.fn.stamp) × (l.slot-index ≤ length l.slots)
