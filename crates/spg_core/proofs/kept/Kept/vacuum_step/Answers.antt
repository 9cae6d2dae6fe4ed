use Rattle.std.proofs.Common.{◌≡◌, List, Some, None, get_or, map, refl, sym, ap, ◌∙◌, subst}
use Rattle.std.specs.BTreeSet.{contains}
use Rattle.spg_base.specs.Row.{row_cmp}
use Rattle.spg_tree.specs.Table.{Table, with_touched}
use Rattle.spg_core.specs.declared.answer.VacuumOut.{VacuumOut}
use Rattle.spg_core.specs.declared.slot.Slot.{Slot}
use Rattle.spg_core.specs.declared.slot.Slot.TheVariants as slot
use Rattle.spg_core.specs.Blocked.{WorkHeldIn}
use Rattle.spg_core.specs.Calls.{WorksOn}
use Rattle.spg_core.specs.Sections.{StepsVacuum}
use Rattle.spg_core.specs.Seen.{stage_at, untouched}
use Rattle.spg_core.specs.Slot.{stage_of}
use Rattle.spg_core.specs.Stage.{Stage, IsSweeping}
use Rattle.spg_core.specs.Sweeping.{CanSweep}
use Rattle.spg_core.proofs.Blocking.{Finds, finds, looked}
use Rattle.spg_core.proofs.Bounding.{latched_bounded}
use Rattle.spg_core.proofs.Calling.{latched_call, vacuums_seen, pages_seen}
use Rattle.spg_core.proofs.Slots.{seen_as, stage_is, table_is}
use Rattle.spg_core.proofs.Steps.{on_err}
use Rattle.spg_core.proofs.Vacuumed as vacuumed
use Rattle.spg_core.proofs.kept.Kept.vacuum_step.Given.{Over}
use Rattle.spg_core.proofs.kept.Kept.vacuum_step.Goals as goal
use Rattle.spg_core.proofs.kept.Kept.vacuum_step.Goals.{After-set_touched}

pub held_slot-requires-clause-vacuum : goal.held_slot-requires-clause-vacuum
held_slot-requires-clause-vacuum g c =
    let m = g.O.OpClass.meaning in
    let s = c.self.inside in
    let seat = c.args.seat in
    let test = contains row_cmp s.targets.rows in (
      test,
      subst (λ (xs : List (Slot _ _ _ _)). CanSweep m s.table test (get_or xs seat slot.Free)) (sym c.as_slice.ensures.value)
          (vacuumed.can_sweep m s c.self.invariant.0 seat (get_or s.slots.items seat slot.Free) refl (subst IsSweeping (stage_is s c.args.self.now c.self.view_is seat) c.requires.sweeping)),
    )

same : (g : Over) (c : After-set_touched g) → c.set_touched.new.self ≡ untouched c.self.inside.table
same g c = c.set_touched.ensures ∙ ap (λ ts. with_touched c.self.inside.table ts) c.new.ensures

-- a section that does nothing
stays : (g : Over) (c : After-set_touched g) → Finds g.O.OpClass.meaning c.self.inside c.args.seat c.in-Some.held.0 c.in-Some.held.1 c.set_touched.new.self (same g c) (get_or c.self.inside.slots.items c.args.seat slot.Free)
stays g c =
    let s = c.self.inside in
    let seat = c.args.seat in
    finds g.O.OpClass.meaning s seat c.in-Some.held.0 c.in-Some.held.1 c.set_touched.new.self (same g c) (get_or s.slots.items seat slot.Free) refl (looked s.table c.as_slice.result.now s.slots.items seat c.held_slot.result (Some c.in-Some.held) c.as_slice.ensures.value c.in-Some.is c.held_slot.ensures)

pub invariant_of-self : goal.invariant_of-self
invariant_of-self g c =
    let m = g.O.OpClass.meaning in
    let s = c.self.inside in
    let I = c.self.invariant.0 in
    let seat = c.args.seat in
    let x = get_or s.slots.items seat slot.Free in
    let (stepped, is, D) = stays g ((goal.at.invariant_of-self g c).After-set_touched) in (
      vacuumed.kept_latched m s I seat x refl c.set_touched.new.self s.slots s.journal stepped c.in-Some.held.0 c.in-Some.held.1 is D refl I.tells.room,
      latched_bounded m s I c.self.invariant.1 seat x refl stepped c.in-Some.held.0 c.in-Some.held.1 is s.slots.items _ D refl refl refl,
    )

pub returns-in-Some-clause-ok : goal.returns-in-Some-clause-ok
returns-in-Some-clause-ok g c =
    let m = g.O.OpClass.meaning in
    let s = c.self.inside in
    let I = c.self.invariant.0 in
    let seen = c.args.self.now in
    let seat = c.args.seat in
    let t2 = c.set_touched.new.self in
    let x = get_or s.slots.items seat slot.Free in
    let new = seen_as s.journal.events (map stage_of s.slots.items) t2 s.origin in
    let (stepped, is, D) = stays g ((goal.at.returns-in-Some-clause-ok g c).After-set_touched) in
    subst (λ (o : VacuumOut). StepsVacuum seen new seat o) is
    (vacuumed.seen_stage m s I seat seen c.self.view_is new stepped.out (vacuumed.latched_seen m s I seat t2 s.journal.events x refl s.slots.items stepped c.in-Some.held.0 c.in-Some.held.1 is D refl))

pub returns-in-Some-clause-call : goal.returns-in-Some-clause-call
returns-in-Some-clause-call g c =
    let m = g.O.OpClass.meaning in
    let s = c.self.inside in
    let I = c.self.invariant.0 in
    let seen = c.args.self.now in
    let seat = c.args.seat in
    let t2 = c.set_touched.new.self in
    let x = get_or s.slots.items seat slot.Free in
    let new = seen_as s.journal.events (map stage_of s.slots.items) t2 s.origin in
    let (stepped, is, D) = stays g ((goal.at.returns-in-Some-clause-call g c).After-set_touched) in
    subst (λ (o : VacuumOut). WorksOn m seen new seat o) is
    (vacuums_seen m s I seat seen c.self.view_is new stepped.out (latched_call m s I seat t2 s.journal.events x refl s.slots.items stepped c.in-Some.held.0 c.in-Some.held.1 is D refl))

pub returns-in-Some-clause-changes : goal.returns-in-Some-clause-changes
returns-in-Some-clause-changes g c =
    let m = g.O.OpClass.meaning in
    let s = c.self.inside in
    let I = c.self.invariant.0 in
    let seen = c.args.self.now in
    let seat = c.args.seat in
    let t2 = c.set_touched.new.self in
    let x = get_or s.slots.items seat slot.Free in
    let new = seen_as s.journal.events (map stage_of s.slots.items) t2 s.origin in
    let (stepped, is, D) = stays g ((goal.at.returns-in-Some-clause-changes g c).After-set_touched) in
    pages_seen m s I seat seen c.self.view_is x refl new s.slots.items stepped D

pub returns-in-Some-clause-others : goal.returns-in-Some-clause-others
returns-in-Some-clause-others g c =
    let m = g.O.OpClass.meaning in
    let s = c.self.inside in
    let I = c.self.invariant.0 in
    let seen = c.args.self.now in
    let seat = c.args.seat in
    let t2 = c.set_touched.new.self in
    let x = get_or s.slots.items seat slot.Free in
    let (stepped, is, D) = stays g ((goal.at.returns-in-Some-clause-others g c).After-set_touched) in
    (vacuumed.section_leaves m s I seat seen c.self.view_is x t2 s.slots.items stepped D).0

pub returns-in-Some-clause-within : goal.returns-in-Some-clause-within
returns-in-Some-clause-within g c =
    let m = g.O.OpClass.meaning in
    let s = c.self.inside in
    let I = c.self.invariant.0 in
    let seen = c.args.self.now in
    let seat = c.args.seat in
    let t2 = c.set_touched.new.self in
    let x = get_or s.slots.items seat slot.Free in
    let (stepped, is, D) = stays g ((goal.at.returns-in-Some-clause-within g c).After-set_touched) in
    (vacuumed.section_leaves m s I seat seen c.self.view_is x t2 s.slots.items stepped D).1

pub returns-in-Some-clause-grows : goal.returns-in-Some-clause-grows
returns-in-Some-clause-grows g c =
    let m = g.O.OpClass.meaning in
    let s = c.self.inside in
    let I = c.self.invariant.0 in
    let seen = c.args.self.now in
    let seat = c.args.seat in
    let t2 = c.set_touched.new.self in
    let x = get_or s.slots.items seat slot.Free in
    let (stepped, is, D) = stays g ((goal.at.returns-in-Some-clause-grows g c).After-set_touched) in
    (vacuumed.section_leaves m s I seat seen c.self.view_is x t2 s.slots.items stepped D).2

pub returns-in-None-clause-latched : goal.returns-in-None-clause-latched
returns-in-None-clause-latched g c =
    let s = c.self.inside in
    let seen = c.args.self.now in
    let seat = c.args.seat in
    on_err c.sweep.result
    (subst (λ (t : Table). WorkHeldIn t (stage_at seen seat) seat None) (sym (table_is s seen c.self.view_is 0))
    (subst (λ (x : Stage _ _ _ _). WorkHeldIn s.table x seat None) (sym (stage_is s seen c.self.view_is seat)) (looked s.table c.as_slice.result.now s.slots.items seat c.held_slot.result None c.as_slice.ensures.value c.in-None.is c.held_slot.ensures)))
