use Rattle.std.proofs.Common.{◌≡◌, ◌++◌, ◌∷◌, [], get_or, map, refl, sym, ap, ap₂, ◌∙◌, subst, length}
use Rattle.spg_rows.specs.declared.event.Event.TheVariants.{OpenScan}
use Rattle.spg_tree.specs.Table.{Table, with_touched}
use Rattle.spg_scan.specs.Scanning.{Scanning, opened}
use Rattle.spg_core.specs.declared.slot.Slot.TheVariants.{Free, Scan}
use Rattle.spg_core.specs.Slot.{stage_of}
use Rattle.spg_core.specs.Stage as stages
use Rattle.spg_core.specs.Stage.{reading}
use Rattle.spg_core.specs.Seen.{logged, untouched}
use Rattle.spg_core.specs.Kept.{IsState}
use Rattle.spg_core.proofs.Slots.{seen_as, stage_is, stage_set, table_is, logged_is}
use Rattle.spg_core.proofs.Steps.{with_fields, kept_with, seats, on_err}
use Rattle.spg_core.proofs.Opens.{room_for_all}
use Rattle.spg_core.proofs.Scans.{scan_opens}
use Rattle.spg_core.proofs.Bounding.{same_bounded, quiet_bounded}
use Rattle.spg_core.specs.Sections.{OpensScan}
use Rattle.spg_core.proofs.kept.Kept.open_scan.Given.{Over}
use Rattle.spg_core.proofs.kept.Kept.open_scan.Goals as goal
use Rattle.spg_core.proofs.kept.Kept.open_scan.Goals.{In_ok-scan, After-set_touched}

pub invariant_of-self : goal.invariant_of-self
invariant_of-self g c =
    let s = c.self.inside in (
      kept_with g.O.OpClass.meaning s c.self.invariant.0 s.rows c.reserve.new.self refl c.reserve.ensures.events c.reserve.ensures.room,
      same_bounded g.O.OpClass.meaning s c.self.invariant.0 c.self.invariant.1 _ (ap (λ j. seen_as j (map stage_of s.slots.items) s.table s.origin) c.reserve.ensures.events),
    )

-- the scan that opens
scan_is : (g : Over) (c : In_ok-scan g) → c.in_ok-scan.scan ≡ opened g.O.OpClass.meaning c.args.query (length c.self.inside.journal.events) c.self.inside.table.clock
scan_is g c = c.in_ok-scan.ensures ∙ ap₂ (opened g.O.OpClass.meaning c.args.query) c.len.ensures (c.at-stamp.ensures ∙ c.clock.ensures.value)

pub invariant_of-self-2 : goal.invariant_of-self-2
invariant_of-self-2 g c =
    let m = g.O.OpClass.meaning in
    let s = c.self.inside in
    let I = c.self.invariant.0 in
    let seat = c.args.seat in
    let scan = c.in_ok-scan.scan in
    let events = c.append.ensures.events ∙ ap (λ j. j ++ OpenScan seat c.in_ok-told.told ∷ []) c.reserve.ensures.events ∙ ap (λ q. s.journal.events ++ OpenScan seat q ∷ []) c.in_ok-told.ensures in
    let was : stage_of (get_or s.slots.items seat Free) ≡ stages.free = sym (stage_is s c.args.self.now c.self.view_is seat) ∙ c.requires.free in
    let room = room_for_all m s I seat c.set_slot.new.slots.items c.reserve.new.self.spare c.append.new.self.spare (Scan scan) c.set_slot.ensures.items c.in_ok-reserve.ensures.ok c.append.ensures.spare in
    let seen = c.args.self.now in
    let query = c.args.query in
    let table : c.set_touched.new.self ≡ untouched seen.table = c.set_touched.ensures ∙ ap (λ ts. with_touched s.table ts) c.new.ensures ∙ ap untouched (sym (table_is s seen c.self.view_is 0)) in (
      subst (λ (t : Table). IsState m (with_fields m s t s.rows c.set_slot.new.slots c.append.new.self)) (sym (c.set_touched.ensures ∙ ap (λ ts. with_touched s.table ts) c.new.ensures))
          (scan_opens m s I seat c.args.query scan c.set_slot.new.slots c.append.new.self (scan_is g ((goal.at.invariant_of-self-2 g c).In_ok-scan)) was c.set_slot.ensures.in_range c.set_slot.ensures.items events room),
      quiet_bounded m s I c.self.invariant.1 seen c.self.view_is seat (reading scan) (OpenScan seat query) tt refl tt _
          (logged_is s seen c.self.view_is seat (OpenScan seat query) (Scan scan) c.set_slot.new.slots.items c.append.new.self.events c.set_touched.new.self c.set_slot.ensures.items events
          ∙ ap (λ (t : Table). logged seen seat (OpenScan seat query) (reading scan) t) table)
          (stage_set c.set_slot.new.slots.items s.slots.items seat (Scan scan) c.set_slot.ensures.items (seats m s I) c.set_slot.ensures.in_range),
    )

-- what it did, as callers see it
told : (g : Over) (c : After-set_touched g) → c.in_ok-scan.scan ≡ opened g.O.OpClass.meaning c.args.query (length c.self.inside.journal.events) c.self.inside.table.clock → OpensScan g.O.OpClass.meaning c.args.self.now (seen_as c.append.new.self.events (map stage_of c.set_slot.new.slots.items) c.set_touched.new.self c.self.inside.origin) c.args.seat c.args.query
told g c is =
    let m = g.O.OpClass.meaning in
    let s = c.self.inside in
    let seen = c.args.self.now in
    let seat = c.args.seat in
    let query = c.args.query in
    let scan = c.in_ok-scan.scan in
    let events = c.append.ensures.events ∙ ap (λ j. j ++ OpenScan seat c.in_ok-told.told ∷ []) c.reserve.ensures.events ∙ ap (λ q. s.journal.events ++ OpenScan seat q ∷ []) c.in_ok-told.ensures in
    let table : c.set_touched.new.self ≡ untouched seen.table = c.set_touched.ensures ∙ ap (λ ts. with_touched s.table ts) c.new.ensures ∙ ap untouched (sym (table_is s seen c.self.view_is 0)) in
    let now : scan ≡ opened m query (length seen.journal) seen.table.clock = is ∙ ap (λ v. opened m query (length v.journal) v.table.clock) c.self.view_is in (
      logged_is s seen c.self.view_is seat (OpenScan seat query) (Scan scan) c.set_slot.new.slots.items c.append.new.self.events c.set_touched.new.self c.set_slot.ensures.items events
          ∙ ap (λ (t : Table). logged seen seat (OpenScan seat query) (reading scan) t) table
          ∙ ap (λ (z : Scanning _ _ _ _). logged seen seat (OpenScan seat query) (reading z) (untouched seen.table)) now,
      stage_set c.set_slot.new.slots.items s.slots.items seat (Scan scan) c.set_slot.ensures.items (seats m s c.self.invariant.0) c.set_slot.ensures.in_range ∙ ap (λ (z : Scanning _ _ _ _). reading z) now,
    )

pub returns-clause-ok : goal.returns-clause-ok
returns-clause-ok g c = told g ((goal.at.returns-clause-ok g c).After-set_touched) (scan_is g ((goal.at.returns-clause-ok g c).In_ok-scan))

pub returns-clause-call : goal.returns-clause-call
returns-clause-call g c = (c.requires.free, told g ((goal.at.returns-clause-call g c).After-set_touched) (scan_is g ((goal.at.returns-clause-call g c).In_ok-scan)))

pub returns-in_err-reserve-clause-err : goal.returns-in_err-reserve-clause-err
returns-in_err-reserve-clause-err g c =
    let s = c.self.inside in
    let e = ap (λ j. seen_as j (map stage_of s.slots.items) s.table s.origin) c.reserve.ensures.events ∙ c.self.view_is in
    on_err c.from_residual-in_err-reserve.result e

pub set_slot-requires : goal.set_slot-requires
set_slot-requires g c = seats g.O.OpClass.meaning c.self.inside c.self.invariant.0
