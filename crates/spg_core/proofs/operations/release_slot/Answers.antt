use Rattle.std.proofs.Common.{sym, subst}
use Rattle.spg_tree.specs.Table.{Table}
use Rattle.spg_descend.specs.Leaves.{stand_block, parent_block}
use Rattle.spg_seats.specs.Latching.{AreHeld, HoldsNone}
use Rattle.spg_seats.specs.Slots.{stage_holds}
use Rattle.spg_seats.proofs.Holding.{all_free}
use Rattle.spg_core.specs.declared.slot.Slot.{Slot}
use Rattle.spg_core.specs.Slot.{stage_of}
use Rattle.spg_core.specs.Telling.{IsButLatches}
use Rattle.spg_core.proofs.Opens.{but_freed}
use Rattle.spg_core.proofs.operations.release_slot.Goals as goal

pub returns-in-Insert-clause-pages : goal.returns-in-Insert-clause-pages
returns-in-Insert-clause-pages g c =
    let d = c.in-Insert.descent in
    subst (λ (t : Table). IsButLatches c.args.table.now t) (sym c.release_latches.ensures.table) (but_freed c.args.table.now (stand_block d.stand) (parent_block d.parent) c.args.seat)

pub returns-in-Insert-clause-latches : goal.returns-in-Insert-clause-latches
returns-in-Insert-clause-latches g c = λ rest h.
    subst (λ (t : Table). HoldsNone t c.args.seat rest) (sym c.release_latches.ensures.table)
    (all_free c.args.seat rest c.args.table.now c.in-Insert.descent (subst (λ (x : Slot _ _ _ _). AreHeld c.args.table.now c.args.seat rest (stage_holds (stage_of x))) c.in-Insert.is h))
