use Rattle.std.proofs.Common.{◌≡◌, replicate}
use Rattle.spg_core.specs.declared.slot.Slot.TheVariants.{Free}
use Rattle.spg_core.proofs.slot.free_slots.Given as goal

abbrev pub invariant-loop-i : goal.invariant-loop-i
invariant-loop-i g l = l.slots.items ≡ replicate l._i Free
