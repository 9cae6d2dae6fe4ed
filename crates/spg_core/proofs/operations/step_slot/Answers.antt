use Rattle.std.proofs.Common.{◌≡◌, ◌<◌, ◌∙◌, ℕ, List, Option, Result, Ok, Err, sym, ap, subst, arith, length, get_or, set}
use Rattle.std.proofs.lemmas.List.{get_or_read}
use Rattle.std.specs.Prelude.{IfOk}
use Rattle.spg_opclass.specs.Meaning.{Meaning}
use Rattle.spg_tree.specs.Table.{Table}
use Rattle.spg_tree.specs.Descents.{Descending}
use Rattle.spg_core.specs.declared.answer.InsertOut.{InsertOut}
use Rattle.spg_core.specs.declared.slot.Slot.{Slot}
use Rattle.spg_core.specs.declared.slot.Slot.TheVariants.{Free, Insert}
use Rattle.spg_core.specs.Slot.{stage_of}
use Rattle.spg_seats.specs.Descending.{HoldsIts, ChangesHeld}
use Rattle.spg_seats.specs.Latching.{InsertHolds}
use Rattle.spg_core.specs.Ends.{TakesOne}
use Rattle.spg_core.specs.Latches.{HoldsAfter}
use Rattle.spg_core.specs.Operations.{StepsFrom, StepsSlot}
use Rattle.spg_core.specs.Stepping.{IsStepOut, MakesAtMostOne}
use Rattle.spg_core.specs.Telling.{StepTells, StepDone}
use Rattle.spg_core.specs.Sections.{FindsNoPageFor, TicksFor}
use Rattle.spg_core.proofs.Slots.{refused_slot}
use Rattle.spg_core.proofs.Refusals.{full_or_short}
use Rattle.spg_core.specs.Refusing.{FindsNoPage}
use Rattle.spg_core.proofs.operations.step_slot.Given.{Over}
use Rattle.spg_core.proofs.operations.step_slot.Goals as goal
use Rattle.spg_core.proofs.operations.step_slot.Goals.{In-Insert}

-- the slot is the insert's
slot_is : (g : Over) (c : In-Insert g) → get_or c.args.slots.now.items c.from.result Free ≡ Insert c.in-Insert.key c.in-Insert.descent
slot_is g c =
    let slots = c.args.slots.now.items in
    let there : c.from.result < length slots = omega (arith, c.requires.seats, c.number.ensures.in_range) in
    sym (get_or_read slots c.from.result c.index_mut.result.now there c.index_mut.ensures.value Free) ∙ c.in-Insert.is

seat_is : (g : Over) (c : In-Insert g) → get_or c.args.slots.now.items c.args.seat Free ≡ Insert c.in-Insert.key c.in-Insert.descent
seat_is g c = ap (λ i. get_or c.args.slots.now.items i Free) (sym (c.from.ensures ∙ c.number.ensures.value)) ∙ slot_is g c

-- the insert is in the slot as the section left it
steps_slot : {O Key Recon Cond E : Type 0} (r : Result InsertOut E) (m : Meaning Key Recon Cond) (t t2 : Table) (slots : List (Slot O Key Recon Cond)) (at seat : ℕ) (key : Option Key) (d d2 : Descending Recon) →
    at ≡ seat → get_or slots seat Free ≡ Insert key d → IfOk r (λ out. StepDone m t t2 d d2 seat out) → IfOk r (λ out. StepsSlot m t t2 slots (set slots at (Insert key d2)) seat out)
steps_slot {O} {Key} {Recon} {Cond} (Ok out) m t t2 slots at seat key d d2 same here done =
    subst (λ (x : Slot O Key Recon Cond). StepsFrom m t t2 slots (set slots at (Insert key d2)) seat out x) (sym here) (d2, ap (λ (i : ℕ). set slots i (Insert key d2)) same, done)
steps_slot (Err e) m t t2 slots at seat key d d2 same here done = tt

-- what the section's clauses say of an answer
step_done : {Key Recon Cond E : Type 0} (r : Result InsertOut E) (m : Meaning Key Recon Cond) (t t2 : Table) (d d2 : Descending Recon) (seat : ℕ) →
    IfOk r (λ out. IsStepOut m t t2 d d2 seat out) → IfOk r (λ out. StepTells m t t2 d d2 seat out) → IfOk r (λ out. (rest : ℕ → Option ℕ) → InsertHolds t seat rest d → HoldsAfter t2 seat rest d2 out)
    → (HoldsIts t seat d → ChangesHeld t t2 seat) → IfOk r (λ out. TakesOne m t t2 d d2 out) → IfOk r (λ _. MakesAtMostOne t t2) → IfOk r (λ out. StepDone m t t2 d d2 seat out)
step_done (Ok out) m t t2 d d2 seat ok told latches within ends makes = record { ok = ok; told = told; latches = latches; within = within; ends = ends; makes = makes }
step_done (Err e) m t t2 d d2 seat ok told latches within ends makes = tt

pub returns-clause-ok : goal.returns-clause-ok
returns-clause-ok g c =
    let e = c.step.ensures in
    let d = c.in-Insert.descent in
    let d2 = c.step.new.descent in
    let t = c.args.table.now in
    let m = g.O.OpClass.meaning in
    steps_slot c.step.result m t _ c.args.slots.now.items c.from.result c.args.seat c.in-Insert.key d d2 (c.from.ensures ∙ c.number.ensures.value) (seat_is g ((goal.at.returns-clause-ok g c).In-Insert))
    (step_done c.step.result m t _ d d2 c.args.seat e.ok e.told e.latches e.within e.ends e.makes)

pub returns-clause-full_where : goal.returns-clause-full_where
returns-clause-full_where g c = λ h.
    subst (λ (x : Slot _ _ _ _). FindsNoPageFor g.O.OpClass.meaning c.args.table.now c.args.seat (stage_of x)) (sym (seat_is g ((goal.at.returns-clause-full_where g c).In-Insert))) (c.step.ensures.refused.full_where h)

pub returns-clause-clock_first : goal.returns-clause-clock_first
returns-clause-clock_first g c = λ ticks last.
    c.step.ensures.refused.clock_first (subst (λ (x : Slot _ _ _ _). TicksFor g.O.OpClass.meaning c.args.table.now (stage_of x)) (seat_is g ((goal.at.returns-clause-clock_first g c).In-Insert)) ticks) last

pub returns-clause-no_page : goal.returns-clause-no_page
returns-clause-no_page g c = λ none apart.
    let m = g.O.OpClass.meaning in
    let t = c.args.table.now in
    let d = c.in-Insert.descent in
    let is = seat_is g ((goal.at.returns-clause-no_page g c).In-Insert) in
    let refused = c.step.ensures.refused in
    full_or_short c.step.result (FindsNoPage m t d c.args.seat) refused.not_full (subst (λ (x : Slot _ _ _ _). FindsNoPageFor m t c.args.seat (stage_of x)) is none)
    (λ h. apart (subst (λ (x : Slot _ _ _ _). TicksFor m t (stage_of x)) (sym is) (refused.clock_where h)) (refused.clock h).1)

pub returns-clause-err_slots : goal.returns-clause-err_slots
returns-clause-err_slots g c =
    refused_slot c.step.result c.args.slots.now.items c.from.result c.in-Insert.key c.in-Insert.descent c.step.new.descent (slot_is g ((goal.at.returns-clause-err_slots g c).In-Insert)) c.step.ensures.refused.err_descent
