use Rattle.std.proofs.Common.{map, refl, ◌≢◌, ◌++◌, ◌∷◌, [], sym, ap, ◌∙◌, subst, get_or}
use Rattle.spg_tree.specs.Table.{Table, with_touched}
use Rattle.spg_seats.specs.Latching.{AreHeld, HoldsNone, rest_of}
use Rattle.spg_seats.specs.Slots.{stage_holds}
use Rattle.spg_core.specs.declared.slot.Slot.{Slot}
use Rattle.spg_core.specs.declared.slot.Slot.TheVariants.{Free}
use Rattle.spg_core.specs.Stage.{free, MayGiveUp, given_up}
use Rattle.spg_core.specs.Slot.{stage_of, GivesBack, ended_with}
use Rattle.spg_core.specs.Seen.{Seen, stage_at, untouched}
use Rattle.spg_core.specs.Sections.{IsReleased, HasNone, OthersHold, GivesUp}
use Rattle.spg_core.specs.Operations.{CanRelease}
use Rattle.spg_core.specs.Kept.{seen_of, IsState}
use Rattle.spg_core.proofs.Slots.{seen_as, stage_set, stage_is, table_is, logged_is, not_free_open}
use Rattle.spg_core.proofs.Steps.{with_all, seats, fits, held, room_left}
use Rattle.spg_core.proofs.Opens.{can_release, may_drop, gives_up, others_left, none_left_of, but_untouched}
use Rattle.spg_core.proofs.Bounding.{gives_bounded}
use Rattle.spg_core.proofs.Calling.{give_call}
use Rattle.spg_core.proofs.kept.Kept.abandon.Given.{Over}
use Rattle.spg_core.proofs.kept.Kept.abandon.Goals as goal
use Rattle.spg_core.proofs.kept.Kept.abandon.Goals.{After-release_slot, After-set_touched}

pub release_slot-requires : goal.release_slot-requires
release_slot-requires g c =
    let s = c.self.inside in
    let I = c.self.invariant.0 in
    subst (λ (x : Slot _ _ _ _). CanRelease s.table s.rows x) (sym c.set_slot-slot.ensures.former) (can_release g.O.OpClass.meaning s I c.args.seat (get_or s.slots.items c.args.seat Free) (fits g.O.OpClass.meaning s I c.args.seat))

pub append-requires : goal.append-requires
append-requires g c =
    let s = c.self.inside in
    let apart : stage_of (get_or s.slots.items c.args.seat Free) ≢ free = λ is. c.requires.open (stage_is s c.args.self.now c.self.view_is c.args.seat ∙ is) in
    room_left g.O.OpClass.meaning s c.self.invariant.0 c.args.seat (not_free_open (stage_of (get_or s.slots.items c.args.seat Free)) apart)

-- the seat's latches are given free
none_left : (g : Over) (c : After-release_slot g) → HoldsNone c.release_slot.new.table c.args.seat (rest_of c.self.inside.table c.args.seat)
none_left g c =
    let s = c.self.inside in
    let seat = c.args.seat in
    c.release_slot.ensures.latches (rest_of s.table seat) (subst (λ (x : Slot _ _ _ _). AreHeld s.table seat (rest_of s.table seat) (stage_holds (stage_of x))) (sym c.set_slot-slot.ensures.former) (held g.O.OpClass.meaning s c.self.invariant.0 seat))

pub invariant_of-self : goal.invariant_of-self
invariant_of-self g c =
    let m = g.O.OpClass.meaning in
    let s = c.self.inside in
    let I = c.self.invariant.0 in
    let seat = c.args.seat in
    let why = c.args.why in
    let slot = get_or s.slots.items seat Free in
    let apart : stage_of slot ≢ free = λ is. c.requires.open (stage_is s c.args.self.now c.self.view_is seat ∙ is) in
    let told = c.give_up.ensures ∙ ap (λ x. given_up seat (stage_of x) why) c.set_slot-slot.ensures.former in
    let events = c.append.ensures.events ∙ ap (λ x. s.journal.events ++ x ∷ []) told in
    let back = subst (λ x. GivesBack x s.rows c.release_slot.new.rows) c.set_slot-slot.ensures.former c.release_slot.ensures.rows in
    let ends = c.end_vacuum.ensures ∙ ap (λ (x : Slot _ _ _ _). ended_with x c.len.result s.vacuums) c.set_slot-slot.ensures.former ∙ ap (λ n. ended_with slot n s.vacuums) c.len.ensures in
    let may = may_drop m s I seat s.table (stage_at (seen_of s) seat) why (subst (λ (v : Seen _ _ _ _). MayGiveUp v.table (stage_at v seat) why) (sym c.self.view_is) c.requires.why) in (
      subst (λ (t : Table). IsState m (with_all m s t c.release_slot.new.rows c.set_slot-slot.new.slots c.append.new.self c.end_vacuum.new.vacuums s.targets s.later)) (sym (c.set_touched.ensures ∙ ap (λ ts. with_touched c.release_slot.new.table ts) c.new.ensures))
          (gives_up m s I seat c.release_slot.new.table c.release_slot.new.rows c.set_slot-slot.new.slots c.append.new.self c.end_vacuum.new.vacuums why c.set_slot-slot.ensures.items c.release_slot.ensures.pages
          (none_left g ((goal.at.invariant_of-self g c).After-release_slot)) c.append.ensures.spare (not_free_open (stage_of slot) apart)
          may events back ends),
      gives_bounded m s I c.self.invariant.1 seat (stage_of slot) why c.release_slot.new.table c.release_slot.ensures.pages may c.set_slot-slot.new.slots.items _ c.set_slot-slot.ensures.items c.set_slot-slot.ensures.in_range refl refl
          (c.set_touched.ensures ∙ ap (λ ts. with_touched c.release_slot.new.table ts) c.new.ensures) events,
    )

-- what it did, as callers see it
told : (g : Over) (c : After-set_touched g) → HoldsNone c.release_slot.new.table c.args.seat (rest_of c.self.inside.table c.args.seat) →
    GivesUp c.args.self.now (seen_as c.append.new.self.events (map stage_of c.set_slot-slot.new.slots.items) c.set_touched.new.self c.self.inside.origin) c.args.seat c.args.why
told g c none =
    let m = g.O.OpClass.meaning in
    let s = c.self.inside in
    let I = c.self.invariant.0 in
    let seen = c.args.self.now in
    let seat = c.args.seat in
    let why = c.args.why in
    let slot = get_or s.slots.items seat Free in
    let t2 = c.set_touched.new.self in
    let table = c.set_touched.ensures ∙ ap (λ ts. with_touched c.release_slot.new.table ts) c.new.ensures in
    let given = c.give_up.ensures ∙ ap (λ x. given_up seat (stage_of x) why) c.set_slot-slot.ensures.former in
    let events = c.append.ensures.events ∙ ap (λ x. s.journal.events ++ x ∷ []) given in
    record {
      is = rw (stage_is s seen c.self.view_is seat) (logged_is s seen c.self.view_is seat (given_up seat (stage_of slot) why) Free c.set_slot-slot.new.slots.items c.append.new.self.events t2 c.set_slot-slot.ensures.items events);
      stage = stage_set c.set_slot-slot.new.slots.items s.slots.items seat Free c.set_slot-slot.ensures.items (seats m s I) c.set_slot-slot.ensures.in_range;
      table = subst (λ (t : Table). IsReleased seen.table t) (sym table) (subst (λ (t : Table). IsReleased t (untouched c.release_slot.new.table)) (sym (table_is s seen c.self.view_is 0)) (but_untouched s.table c.release_slot.new.table c.release_slot.ensures.pages));
      latches = subst (λ (t : Table). HasNone t seat) (sym table) (none_left_of s.table c.release_slot.new.table seat none);
      others = subst (λ (t : Table). OthersHold seen.table t seat) (sym table) (subst (λ (t : Table). OthersHold t (untouched c.release_slot.new.table) seat) (sym (table_is s seen c.self.view_is 0)) (others_left s.table c.release_slot.new.table seat none));
    }

pub returns-clause-up : goal.returns-clause-up
returns-clause-up g c = told g ((goal.at.returns-clause-up g c).After-set_touched) (none_left g ((goal.at.returns-clause-up g c).After-release_slot))

pub returns-clause-call : goal.returns-clause-call
returns-clause-call g c =
    let may = may_drop g.O.OpClass.meaning c.self.inside c.self.invariant.0 c.args.seat c.args.self.now.table (stage_at c.args.self.now c.args.seat) c.args.why c.requires.why in
    give_call g.O.OpClass.meaning c.args.self.now _ c.args.seat c.args.why c.requires.open may (told g ((goal.at.returns-clause-call g c).After-set_touched) (none_left g ((goal.at.returns-clause-call g c).After-release_slot)))
