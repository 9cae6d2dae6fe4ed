use Rattle.std.proofs.Common.{get_or, ◌∙◌}
use Rattle.spg_core.specs.declared.slot.Slot.TheVariants.{Free}
use Rattle.spg_core.proofs.Sectioning.{vacuum_of}
use Rattle.spg_core.proofs.sweeping.held_slot.Goals as goal

pub unreachable-requires : goal.unreachable-requires
unreachable-requires g c =
    let (v, is) = vacuum_of g.O.OpClass.meaning c.args.table.now c.requires.vacuum.0 (get_or c.args.slots.now c.args.seat Free) c.requires.vacuum.1 in
    c.in_default.not-Vacuum v (c.slot_at.ensures ∙ is)
