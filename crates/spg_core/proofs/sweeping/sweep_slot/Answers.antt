use Rattle.std.proofs.Common.{◌≡◌, ◌≤◌, ◌<◌, List, length, map, get_or, set, sym, ap, ◌∙◌, subst, arith}
use Rattle.std.proofs.lemmas.List.{get_or_read}
use Rattle.std.specs.BTreeSet.{contains}
use Rattle.spg_base.specs.Row.{row_cmp}
use Rattle.spg_seats.specs.Slots.{horizon_of}
use Rattle.spg_core.specs.declared.slot.Slot.{Slot}
use Rattle.spg_core.specs.declared.slot.Slot.TheVariants.{Free, Vacuum}
use Rattle.spg_core.specs.Slot.{stage_of}
use Rattle.spg_core.specs.Sweeping.{DoesWork, KeepsWork, IsVacuumSlot, SweepsFrom}
use Rattle.spg_core.proofs.Sectioning.{vacuum_of, vacuum_slot, horizon_under, horizon_is, same_slot}
use Rattle.spg_core.proofs.Steps.{on_err}
use Rattle.spg_core.proofs.sweeping.sweep_slot.Given.{Over}
use Rattle.spg_core.proofs.sweeping.sweep_slot.Goals as goal
use Rattle.spg_core.proofs.sweeping.sweep_slot.Goals.{In-Vacuum}

-- the slot is the vacuum's
slot_is : (g : Over) (c : In-Vacuum g) → get_or c.args.slots.now.items c.from.result Free ≡ Vacuum c.in-Vacuum.vacuum
slot_is g c =
    let items = c.args.slots.now.items in
    let there : c.from.result < length items = omega (arith, c.requires.seats, c.from.ensures, c.number.ensures.value, c.number.ensures.in_range) in
    sym (get_or_read items c.from.result c.index_mut.result.now there c.index_mut.ensures.value Free) ∙ c.in-Vacuum.is

seat_is : (g : Over) (c : In-Vacuum g) → get_or c.args.slots.now.items c.args.seat Free ≡ Vacuum c.in-Vacuum.vacuum
seat_is g c = ap (λ i. get_or c.args.slots.now.items i Free) (sym (c.from.ensures ∙ c.number.ensures.value)) ∙ slot_is g c

found : (g : Over) (c : In-Vacuum g) → c.horizon_for-horizon.result ≡ horizon_of (map stage_of c.args.slots.now.items) c.in-Vacuum.vacuum.stamp
found g c = horizon_is c.as_slice.result.now c.args.slots.now.items c.args.seat c.horizon_for-horizon.result c.in-Vacuum.vacuum c.as_slice.ensures.value (seat_is g c) c.horizon_for-horizon.ensures

pub horizon_for-horizon-requires-clause-vacuum : goal.horizon_for-horizon-requires-clause-vacuum
horizon_for-horizon-requires-clause-vacuum g c =
    subst (λ (xs : List (Slot _ _ _ _)). IsVacuumSlot (get_or xs c.args.seat Free)) (sym c.as_slice.ensures.value)
    (vacuum_slot g.O.OpClass.meaning c.args.table.now (contains row_cmp c.args.targets.now.rows) (get_or c.args.slots.now.items c.args.seat Free) c.requires.vacuum)

pub step_vacuum-requires-clause-horizon : goal.step_vacuum-requires-clause-horizon
step_vacuum-requires-clause-horizon g c =
    let a = found g ((goal.at.step_vacuum-requires-clause-horizon g c).In-Vacuum) in
    let b = horizon_under (map stage_of c.args.slots.now.items) c.in-Vacuum.vacuum.stamp in
    subst (λ n. n ≤ c.in-Vacuum.vacuum.stamp) (sym a) b

pub returns-in_err-out-in-Vacuum-clause-err_slots : goal.returns-in_err-out-in-Vacuum-clause-err_slots
returns-in_err-out-in-Vacuum-clause-err_slots g c =
    on_err c.from_residual.result (same_slot c.args.slots.now.items c.from.result c.in-Vacuum.vacuum c.step_vacuum.new.vacuum (slot_is g ((goal.at.returns-in_err-out-in-Vacuum-clause-err_slots g c).In-Vacuum)) c.in_err-out-in-Vacuum.ensures.err_vacuum)

pub unreachable-requires : goal.unreachable-requires
unreachable-requires g c =
    let items = c.args.slots.now.items in
    let there : c.from.result < length items = omega (arith, c.requires.seats, c.from.ensures, c.number.ensures.value, c.number.ensures.in_range) in
    let (v, is) = vacuum_of g.O.OpClass.meaning c.args.table.now (contains row_cmp c.args.targets.now.rows) (get_or items c.args.seat Free) c.requires.vacuum in
    c.in_default.not-Vacuum v (get_or_read items c.from.result c.index_mut.result.now there c.index_mut.ensures.value Free ∙ ap (λ i. get_or items i Free) (c.from.ensures ∙ c.number.ensures.value) ∙ is)

pub returns-clause-ok : goal.returns-clause-ok
returns-clause-ok g c =
    let m = g.O.OpClass.meaning in
    let items = c.args.slots.now.items in
    let test = contains row_cmp c.args.targets.now.rows in
    let at = (goal.at.returns-clause-ok g c).In-Vacuum in
    let h = found g at in
    let E = c.in_ok-out-in-Vacuum.ensures in
    let v = c.in-Vacuum.vacuum in
    let v2 = c.step_vacuum.new.vacuum in
    subst (λ (x : Slot _ _ _ _). SweepsFrom m c.args.table.now c.step_vacuum.new.table items (set items c.from.result (Vacuum v2)) test c.args.seat (record { out = c.in_ok-out-in-Vacuum.out; rows = c.in_ok-out-in-Vacuum.rows; opened = c.at-opened.result }) x) (sym (seat_is g at)) (
      v2,
      ap (λ i. set items i (Vacuum v2)) (c.from.ensures ∙ c.number.ensures.value),
      c.at-opened.ensures,
      subst (λ n. DoesWork c.args.table.now c.step_vacuum.new.table v v2 test n c.args.seat c.in_ok-out-in-Vacuum.out c.in_ok-out-in-Vacuum.rows) h E.ok,
      subst (λ n. KeepsWork m c.args.table.now c.step_vacuum.new.table v v2 test n c.in_ok-out-in-Vacuum.out c.in_ok-out-in-Vacuum.rows) h E.keeps,
    )
