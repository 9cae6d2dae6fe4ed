use Rattle.std.proofs.Common.{◌≡◌, ◌∷◌, ◌++◌, [], List, length, get_or, set, map, None, refl, sym, ap, ap₂, ◌∙◌, subst}
use Rattle.spg_rows.specs.declared.event.Event.TheVariants.{OpenVacuum}
use Rattle.spg_rows.specs.Vacuums.{AreBefore}
use Rattle.spg_tree.specs.Table.{Table, with_touched}
use Rattle.spg_vacuum.specs.declared.vacuum.Vacuum.{Vacuum}
use Rattle.spg_seats.specs.Opening.{opened_vacuum}
use Rattle.spg_seats.specs.Waiting.{is_sweeping, lowest_seat}
use Rattle.spg_core.specs.declared.slot.Slot.{Slot}
use Rattle.spg_core.specs.declared.slot.Slot.TheVariants as slot
use Rattle.spg_core.specs.Slot.{stage_of}
use Rattle.spg_core.specs.Stage as stages
use Rattle.spg_core.specs.Stage.{sweeping}
use Rattle.spg_core.specs.Seen.{Seen, logged, untouched}
use Rattle.spg_core.specs.Kept.{fields_of, IsState}
use Rattle.spg_core.proofs.Slots.{seen_as, stage_is, stage_set, table_is, logged_is}
use Rattle.spg_core.proofs.Steps.{with_all, with_fields, kept_with, seats, on_err, no_ok}
use Rattle.spg_core.proofs.Steps as steps
use Rattle.spg_core.proofs.Opens.{room_for_all}
use Rattle.spg_core.proofs.Sweepers.{none_sweeps, kept_sets, open_by, none_by, no_seat, opens_behind, opens_vacuum}
use Rattle.spg_core.proofs.Bounding.{same_bounded, quiet_bounded}
use Rattle.spg_core.specs.Sections.{OpensVacuum}
use Rattle.spg_seats.specs.Slots.{NoneSweeps}
use Rattle.spg_core.proofs.kept.Kept.open_vacuum.Given.{Over}
use Rattle.spg_core.proofs.kept.Kept.open_vacuum.Goals as goal
use Rattle.spg_core.proofs.kept.Kept.open_vacuum.Goals.{In_default, After-vacuum_seat, After-set_touched}

-- which seat is found
found : (g : Over) (c : After-vacuum_seat g) → c.vacuum_seat.result ≡ lowest_seat is_sweeping 64 (map stage_of c.self.inside.slots.items)
found g c = c.vacuum_seat.ensures ∙ ap (λ (l : List (Slot _ _ _ _)). lowest_seat is_sweeping 64 (map stage_of l)) c.deref.ensures.value

pub returns-in-Some-clause-open : goal.returns-in-Some-clause-open
returns-in-Some-clause-open g c = open_by g.O.OpClass.meaning c.self.inside c.self.invariant.0 c.args.self.now c.self.view_is c.in-Some.by (sym (found g ((goal.at.returns-in-Some-clause-open g c).After-vacuum_seat)) ∙ c.in-Some.is)

pub returns-in_err-reserve-clause-open : goal.returns-in_err-reserve-clause-open
returns-in_err-reserve-clause-open g c = none_by g.O.OpClass.meaning c.self.inside c.self.invariant.0 c.args.self.now c.self.view_is (sym (found g ((goal.at.returns-in_err-reserve-clause-open g c).After-vacuum_seat)) ∙ c.in_default.is) c.from_residual.result (no_seat c.from_residual.result c.from_residual.ensures.1)

pub returns-in_err-reserve-clause-err : goal.returns-in_err-reserve-clause-err
returns-in_err-reserve-clause-err g c =
    let s = c.self.inside in
    let e = ap (λ j. seen_as j (map stage_of s.slots.items) s.table s.origin) c.reserve.ensures.events ∙ c.self.view_is in
    on_err c.from_residual.result e

pub invariant_of-self-in_err-take_all : goal.invariant_of-self-in_err-take_all
invariant_of-self-in_err-take_all g c =
    let m = g.O.OpClass.meaning in
    let s = c.self.inside in
    let I = c.self.invariant.0 in
    let none = sym (found g ((goal.at.invariant_of-self-in_err-take_all g c).After-vacuum_seat)) ∙ c.in_default.is in (
      kept_sets m (fields_of (with_fields m s s.table s.rows s.slots c.reserve.new.self)) (kept_with m s I s.rows c.reserve.new.self refl c.reserve.ensures.events c.reserve.ensures.room) (none_sweeps (steps.stages m s I) I.seats none) _ _ c.take_all.ensures.rows,
      same_bounded m s I c.self.invariant.1 _ (ap (λ j. seen_as j (map stage_of s.slots.items) s.table s.origin) c.reserve.ensures.events),
    )

pub returns-in_err-take_all-clause-open : goal.returns-in_err-take_all-clause-open
returns-in_err-take_all-clause-open g c = none_by g.O.OpClass.meaning c.self.inside c.self.invariant.0 c.args.self.now c.self.view_is (sym (found g ((goal.at.returns-in_err-take_all-clause-open g c).After-vacuum_seat)) ∙ c.in_default.is) c.from_residual-in_err-take_all.result (no_seat c.from_residual-in_err-take_all.result c.from_residual-in_err-take_all.ensures.1)

pub returns-in_err-take_all-clause-err : goal.returns-in_err-take_all-clause-err
returns-in_err-take_all-clause-err g c =
    let s = c.self.inside in
    let e = ap (λ j. seen_as j (map stage_of s.slots.items) s.table s.origin) c.reserve.ensures.events ∙ c.self.view_is in
    on_err c.from_residual-in_err-take_all.result e

pub open-requires : goal.open-requires
open-requires g c =
    let s = c.self.inside in
    subst (λ n. AreBefore n s.vacuums) (sym (c.len-at.ensures ∙ ap length c.reserve.ensures.events)) (opens_behind g.O.OpClass.meaning s c.self.invariant.0)

pub invariant_of-self-in_err-open : goal.invariant_of-self-in_err-open
invariant_of-self-in_err-open g c =
    let m = g.O.OpClass.meaning in
    let s = c.self.inside in
    let I = c.self.invariant.0 in
    let none = sym (found g ((goal.at.invariant_of-self-in_err-open g c).After-vacuum_seat)) ∙ c.in_default.is in
    let kept = kept_sets m (fields_of (with_fields m s s.table s.rows s.slots c.reserve.new.self)) (kept_with m s I s.rows c.reserve.new.self refl c.reserve.ensures.events c.reserve.ensures.room) (none_sweeps (steps.stages m s I) I.seats none) _ _ c.take_all.ensures.rows in (
      subst (λ v. IsState m (with_all m s s.table s.rows s.slots c.reserve.new.self v c.take_all.new.self c.take_all.new.other)) (sym c.in_err-open.ensures.err) kept,
      same_bounded m s I c.self.invariant.1 _ (ap (λ j. seen_as j (map stage_of s.slots.items) s.table s.origin) c.reserve.ensures.events),
    )

pub returns-in_err-open-clause-open : goal.returns-in_err-open-clause-open
returns-in_err-open-clause-open g c = none_by g.O.OpClass.meaning c.self.inside c.self.invariant.0 c.args.self.now c.self.view_is (sym (found g ((goal.at.returns-in_err-open-clause-open g c).After-vacuum_seat)) ∙ c.in_default.is) c.from_residual-in_err-open.result (no_seat c.from_residual-in_err-open.result c.from_residual-in_err-open.ensures.1)

pub returns-in_err-open-clause-err : goal.returns-in_err-open-clause-err
returns-in_err-open-clause-err g c =
    let s = c.self.inside in
    let e = ap (λ j. seen_as j (map stage_of s.slots.items) s.table s.origin) c.reserve.ensures.events ∙ c.self.view_is in
    on_err c.from_residual-in_err-open.result e

pub invariant_of-self-2 : goal.invariant_of-self-2
invariant_of-self-2 g c =
    let m = g.O.OpClass.meaning in
    let s = c.self.inside in
    let I = c.self.invariant.0 in
    let seat = c.args.seat in
    let none = sym (found g ((goal.at.invariant_of-self-2 g c).After-vacuum_seat)) ∙ c.in_default.is in
    let at = c.len-at.ensures ∙ ap length c.reserve.ensures.events in
    let v : c.open-vacuum.result ≡ opened_vacuum (length s.journal.events) s.table.clock = c.open-vacuum.ensures ∙ ap₂ opened_vacuum at (c.at.ensures ∙ c.clock.ensures.value) in
    let events = c.append.ensures.events ∙ ap (λ j. j ++ OpenVacuum seat ∷ []) c.reserve.ensures.events in
    let was : stage_of (get_or s.slots.items seat slot.Free) ≡ stages.free = sym (stage_is s c.args.self.now c.self.view_is seat) ∙ c.requires.free in
    let room = room_for_all m s I seat c.set_slot.new.slots.items c.reserve.new.self.spare c.append.new.self.spare (slot.Vacuum c.open-vacuum.result) c.set_slot.ensures.items c.in_ok-reserve.ensures.ok c.append.ensures.spare in
    let seen = c.args.self.now in
    let table : c.set_touched.new.self ≡ untouched seen.table = c.set_touched.ensures ∙ ap (λ ts. with_touched s.table ts) c.new.ensures ∙ ap untouched (sym (table_is s seen c.self.view_is 0)) in (
      subst (λ (t : Table). IsState m (with_all m s t s.rows c.set_slot.new.slots c.append.new.self c.open.new.self c.take_all.new.self c.take_all.new.other)) (sym (c.set_touched.ensures ∙ ap (λ ts. with_touched s.table ts) c.new.ensures))
          (opens_vacuum m s I seat c.set_slot.new.slots c.append.new.self c.open.new.self c.take_all.new.self c.take_all.new.other none was c.set_slot.ensures.in_range
          (c.set_slot.ensures.items ∙ ap (λ (x : Vacuum). set s.slots.items seat (slot.Vacuum x)) v) events (c.in_ok-open.ensures.ok ∙ ap (λ n. (n, None) ∷ s.vacuums) at) c.take_all.ensures.rows c.in_ok-take_all.ensures.ok room),
      quiet_bounded m s I c.self.invariant.1 seen c.self.view_is seat (sweeping c.open-vacuum.result) (OpenVacuum seat) tt refl tt _
          (logged_is s seen c.self.view_is seat (OpenVacuum seat) (slot.Vacuum c.open-vacuum.result) c.set_slot.new.slots.items c.append.new.self.events c.set_touched.new.self c.set_slot.ensures.items events
          ∙ ap (λ (t : Table). logged seen seat (OpenVacuum seat) (sweeping c.open-vacuum.result) t) table)
          (stage_set c.set_slot.new.slots.items s.slots.items seat (slot.Vacuum c.open-vacuum.result) c.set_slot.ensures.items (seats m s I) c.set_slot.ensures.in_range),
    )

-- what it did, as callers see it
told : (g : Over) (c : After-set_touched g) → OpensVacuum c.args.self.now (seen_as c.append.new.self.events (map stage_of c.set_slot.new.slots.items) c.set_touched.new.self c.self.inside.origin) c.args.seat
told g c =
    let m = g.O.OpClass.meaning in
    let s = c.self.inside in
    let seen = c.args.self.now in
    let seat = c.args.seat in
    let at = c.len-at.ensures ∙ ap length c.reserve.ensures.events in
    let v : c.open-vacuum.result ≡ opened_vacuum (length s.journal.events) s.table.clock = c.open-vacuum.ensures ∙ ap₂ opened_vacuum at (c.at.ensures ∙ c.clock.ensures.value) in
    let events = c.append.ensures.events ∙ ap (λ j. j ++ OpenVacuum seat ∷ []) c.reserve.ensures.events in
    let table : c.set_touched.new.self ≡ untouched seen.table = c.set_touched.ensures ∙ ap (λ ts. with_touched s.table ts) c.new.ensures ∙ ap untouched (sym (table_is s seen c.self.view_is 0)) in
    let now : c.open-vacuum.result ≡ opened_vacuum (length seen.journal) seen.table.clock = v ∙ ap (λ x. opened_vacuum (length x.journal) x.table.clock) c.self.view_is in (
      logged_is s seen c.self.view_is seat (OpenVacuum seat) (slot.Vacuum c.open-vacuum.result) c.set_slot.new.slots.items c.append.new.self.events c.set_touched.new.self c.set_slot.ensures.items events
          ∙ ap (λ (t : Table). logged seen seat (OpenVacuum seat) (sweeping c.open-vacuum.result) t) table
          ∙ ap (λ (z : Vacuum). logged seen seat (OpenVacuum seat) (sweeping z) (untouched seen.table)) now,
      stage_set c.set_slot.new.slots.items s.slots.items seat (slot.Vacuum c.open-vacuum.result) c.set_slot.ensures.items (seats m s c.self.invariant.0) c.set_slot.ensures.in_range ∙ ap (λ (z : Vacuum). sweeping z) now,
    )

pub returns-clause-ok : goal.returns-clause-ok
returns-clause-ok g c = told g ((goal.at.returns-clause-ok g c).After-set_touched)

pub returns-clause-call : goal.returns-clause-call
returns-clause-call g c =
    let none = sym (found g ((goal.at.returns-clause-call g c).After-vacuum_seat)) ∙ c.in_default.is in
    (c.requires.free, subst (λ (v : Seen _ _ _ _). NoneSweeps v.stages) c.self.view_is (none_sweeps (steps.stages g.O.OpClass.meaning c.self.inside c.self.invariant.0) c.self.invariant.0.seats none), told g ((goal.at.returns-clause-call g c).After-set_touched))

pub returns-clause-open : goal.returns-clause-open
returns-clause-open g c = none_by g.O.OpClass.meaning c.self.inside c.self.invariant.0 c.args.self.now c.self.view_is (sym (found g ((goal.at.returns-clause-open g c).After-vacuum_seat)) ∙ c.in_default.is) _ (λ by h. cc h)
