use Rattle.std.proofs.Common.{rules, ◌↔◌, IsErrOf, Ok, get_or, map, refl, sym, ap, ◌∙◌, subst}
use Rattle.spg_scan.specs.declared.scan_sifted.SiftRefused.{SiftRefused}
use Rattle.spg_scan.specs.declared.scan_sifted.SiftRefused.TheVariants.{Changed}
use Rattle.spg_tree.specs.Table.{Table, with_touched}
use Rattle.spg_core.specs.declared.slot.Slot.TheVariants.{Free}
use Rattle.spg_core.specs.Slot.{stage_of}
use Rattle.spg_core.specs.Stage.{Stage}
use Rattle.spg_core.specs.Looking.{KeptIn, SiftsFor}
use Rattle.spg_core.specs.Kept.{IsState}
use Rattle.spg_core.proofs.Slots.{stage_is, seen_as}
use Rattle.spg_core.proofs.Steps.{with_fields}
use Rattle.spg_core.proofs.Siftings.{kept_sifts, sifts_seen}
use Rattle.spg_core.proofs.Bounding.{sift_bounded}
use Rattle.spg_core.specs.Looking.{SiftsItem}
use Rattle.spg_core.proofs.kept.Kept.scan_sifted.Given.{Over}
use Rattle.spg_core.proofs.kept.Kept.scan_sifted.Goals as goal
use Rattle.spg_core.proofs.kept.Kept.scan_sifted.Goals.{After-set_touched}

pub returns-in_err-sift_slot-clause-changed : goal.returns-in_err-sift_slot-clause-changed
returns-in_err-sift_slot-clause-changed g c =
    let s = c.self.inside in
    let seat = c.args.seat in
    let told : IsErrOf c.from_residual.result Changed ↔ (KeptIn (stage_of (get_or s.slots.items seat Free)) c.args.item c.args.sifted.now → ⊥) = search rules in
    subst (λ (x : Stage _ _ _ _). IsErrOf c.from_residual.result Changed ↔ (KeptIn x c.args.item c.args.sifted.now → ⊥)) (sym (stage_is s c.args.self.now c.self.view_is seat)) told

pub invariant_of-self-2 : goal.invariant_of-self-2
invariant_of-self-2 g c =
    let m = g.O.OpClass.meaning in
    let s = c.self.inside in
    let seat = c.args.seat in
    let told = sifts_seen m s c.self.invariant.0 seat c.args.self.now c.self.view_is c.args.item c.args.sifted.now c.sift_slot.new.slots c.set_touched.new.self (c.set_touched.ensures ∙ ap (λ ts. with_touched s.table ts) c.new.ensures) (get_or s.slots.items seat Free) refl c.in_ok-sift_slot.ensures.ok in (
      subst (λ (t : Table). IsState m (with_fields m s t s.rows c.sift_slot.new.slots s.journal)) (sym (c.set_touched.ensures ∙ ap (λ ts. with_touched s.table ts) c.new.ensures))
          (kept_sifts m s c.self.invariant.0 seat c.args.item c.args.sifted.now c.sift_slot.new.slots g.O.OpClass.keeps g.O.OpClass.codes (get_or s.slots.items seat Free) refl c.in_ok-sift_slot.ensures.ok),
      sift_bounded m s c.self.invariant.0 c.self.invariant.1 c.args.self.now c.self.view_is seat c.args.item c.args.sifted.now (stage_of (get_or s.slots.items seat Free)) _ told,
    )

-- what it did, as callers see it
told : (g : Over) (c : After-set_touched g) → SiftsItem g.O.OpClass.meaning c.args.self.now (seen_as c.self.inside.journal.events (map stage_of c.sift_slot.new.slots.items) c.set_touched.new.self c.self.inside.origin) c.args.seat c.args.item c.args.sifted.now
told g c =
    let m = g.O.OpClass.meaning in
    let s = c.self.inside in
    let seen = c.args.self.now in
    let seat = c.args.seat in
    let new = seen_as s.journal.events (map stage_of c.sift_slot.new.slots.items) c.set_touched.new.self s.origin in
    subst (λ (x : Stage _ _ _ _). SiftsFor m seen new seat c.args.item c.args.sifted.now x) (sym (stage_is s seen c.self.view_is seat))
    (sifts_seen m s c.self.invariant.0 seat seen c.self.view_is c.args.item c.args.sifted.now c.sift_slot.new.slots c.set_touched.new.self (c.set_touched.ensures ∙ ap (λ ts. with_touched s.table ts) c.new.ensures) (get_or s.slots.items seat Free) refl c.in_ok-sift_slot.ensures.ok)

pub returns-clause-ok : goal.returns-clause-ok
returns-clause-ok g c = told g ((goal.at.returns-clause-ok g c).After-set_touched)

pub returns-clause-call : goal.returns-clause-call
returns-clause-call g c = told g ((goal.at.returns-clause-call g c).After-set_touched)

pub returns-clause-changed : goal.returns-clause-changed
returns-clause-changed g c =
    let s = c.self.inside in
    let seat = c.args.seat in
    subst (λ (x : Stage _ _ _ _). IsErrOf {T = Unit {0}} {E = SiftRefused} (Ok tt) Changed ↔ (KeptIn x c.args.item c.args.sifted.now → ⊥)) (sym (stage_is s c.args.self.now c.self.view_is seat)) c.in_ok-sift_slot.ensures.changed
