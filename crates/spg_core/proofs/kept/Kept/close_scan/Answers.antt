use Rattle.std.proofs.Common.{map, refl, sym, ap, ◌∙◌, subst, get_or}
use Rattle.spg_tree.specs.Table.{Table, with_touched}
use Rattle.spg_core.specs.declared.slot.Slot.TheVariants.{Free}
use Rattle.spg_core.specs.Slot.{stage_of}
use Rattle.spg_rows.specs.declared.event.Event.TheVariants.{CloseScan}
use Rattle.spg_core.specs.Stage.{free, IsRead}
use Rattle.spg_core.specs.Sections.{HasMet}
use Rattle.spg_core.specs.Kept.{IsState}
use Rattle.spg_core.proofs.Scans.{is_read, told_events, closes_seats, kept_closes, closes_seen}
use Rattle.spg_core.proofs.Slots.{seen_as, stage_is}
use Rattle.spg_core.proofs.Steps.{with_fields, kept_same, room_left}
use Rattle.spg_core.proofs.Bounding.{same_bounded, quiet_bounded}
use Rattle.spg_core.specs.Sections.{ClosesScan}
use Rattle.spg_core.proofs.Calling.{close_call}
use Rattle.spg_core.proofs.kept.Kept.close_scan.Given.{Over}
use Rattle.spg_core.proofs.kept.Kept.close_scan.Goals as goal
use Rattle.spg_core.proofs.kept.Kept.close_scan.Goals.{After-set_touched}

pub close_slot-requires-clause-scan : goal.close_slot-requires-clause-scan
close_slot-requires-clause-scan g c =
    let s = c.self.inside in
    let seat = c.args.seat in
    (is_read g.O.OpClass.meaning s c.self.invariant.0 seat (get_or s.slots.items seat Free) (subst IsRead (stage_is s c.args.self.now c.self.view_is seat) c.requires.read)).0

pub append-requires : goal.append-requires
append-requires g c =
    let s = c.self.inside in
    let seat = c.args.seat in
    room_left g.O.OpClass.meaning s c.self.invariant.0 seat (is_read g.O.OpClass.meaning s c.self.invariant.0 seat (get_or s.slots.items seat Free) (subst IsRead (stage_is s c.args.self.now c.self.view_is seat) c.requires.read)).1

pub set_slot-requires : goal.set_slot-requires
set_slot-requires g c =
    let s = c.self.inside in
    closes_seats g.O.OpClass.meaning s c.self.invariant.0 c.args.seat c.in_ok-told.closed c.close_slot.new.slots.items (get_or s.slots.items c.args.seat Free) c.in_ok-told.ensures.ok

pub invariant_of-self : goal.invariant_of-self
invariant_of-self g c =
    let s = c.self.inside in (
      kept_same g.O.OpClass.meaning s c.self.invariant.0 s.table c.close_slot.new.slots refl c.in_err-told.ensures.err,
      same_bounded g.O.OpClass.meaning s c.self.invariant.0 c.self.invariant.1 _ (ap (λ l. seen_as s.journal.events (map stage_of l) s.table s.origin) c.in_err-told.ensures.err),
    )

pub invariant_of-self-2 : goal.invariant_of-self-2
invariant_of-self-2 g c =
    let m = g.O.OpClass.meaning in
    let s = c.self.inside in
    let I = c.self.invariant.0 in
    let seat = c.args.seat in
    let can = (is_read m s I seat (get_or s.slots.items seat Free) (subst IsRead (stage_is s c.args.self.now c.self.view_is seat) c.requires.read)).0 in
    let events = told_events m s I seat c.in_ok-told.told c.in_ok-told.closed.rows c.append.new.self.events c.append.ensures.events c.in_ok-told.ensures.told in
    let (new, at, met) = closes_seen m s I seat c.args.self.now c.self.view_is c.in_ok-told.closed c.close_slot.new.slots.items c.set_slot.new.slots.items c.append.new.self.events c.set_touched.new.self (c.set_touched.ensures ∙ ap (λ ts. with_touched s.table ts) c.new.ensures)
    (get_or s.slots.items seat Free) refl c.in_ok-told.ensures.ok c.set_slot.ensures.items events in (
      subst (λ (t : Table). IsState m (with_fields m s t s.rows c.set_slot.new.slots c.append.new.self)) (sym (c.set_touched.ensures ∙ ap (λ ts. with_touched s.table ts) c.new.ensures))
          (kept_closes m s I seat c.in_ok-told.closed c.close_slot.new.slots c.set_slot.new.slots c.append.new.self (get_or s.slots.items seat Free) refl can
          c.in_ok-told.ensures.ok c.set_slot.ensures.items events c.append.ensures.spare),
      quiet_bounded m s I c.self.invariant.1 c.args.self.now c.self.view_is seat free (CloseScan seat c.in_ok-told.closed.rows) tt refl tt _ new at,
    )

-- what it did, as callers see it
told : (g : Over) (c : After-set_touched g) → ClosesScan c.args.self.now (seen_as c.append.new.self.events (map stage_of c.set_slot.new.slots.items) c.set_touched.new.self c.self.inside.origin) c.args.seat c.in_ok-told.closed
told g c =
    let m = g.O.OpClass.meaning in
    let s = c.self.inside in
    let I = c.self.invariant.0 in
    let seat = c.args.seat in
    let events = told_events m s I seat c.in_ok-told.told c.in_ok-told.closed.rows c.append.new.self.events c.append.ensures.events c.in_ok-told.ensures.told in
    let (new, at, met) = closes_seen m s I seat c.args.self.now c.self.view_is c.in_ok-told.closed c.close_slot.new.slots.items c.set_slot.new.slots.items c.append.new.self.events c.set_touched.new.self (c.set_touched.ensures ∙ ap (λ ts. with_touched s.table ts) c.new.ensures)
    (get_or s.slots.items seat Free) refl c.in_ok-told.ensures.ok c.set_slot.ensures.items events in
    (new, at, subst (λ st. HasMet st c.in_ok-told.closed.met) (sym (stage_is s c.args.self.now c.self.view_is seat)) met)

pub returns-clause-ok : goal.returns-clause-ok
returns-clause-ok g c = told g ((goal.at.returns-clause-ok g c).After-set_touched)

pub returns-clause-call : goal.returns-clause-call
returns-clause-call g c =
    let s = c.self.inside in
    let seat = c.args.seat in
    close_call g.O.OpClass.meaning s c.self.invariant.0 seat c.args.self.now c.self.view_is c.in_ok-told.closed c.close_slot.new.slots.items (get_or s.slots.items seat Free) _ refl c.in_ok-told.ensures.ok (subst IsRead (stage_is s c.args.self.now c.self.view_is seat) c.requires.read)
    (told g ((goal.at.returns-clause-call g c).After-set_touched))
