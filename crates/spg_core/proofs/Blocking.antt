-- Where another seat has latched the block that a vacuum handles next.
use Rattle.std.proofs.Common.{◌≡◌, ◌⊎◌, ◌∷◌, [], inl, inr, ℕ, Bool, true, false, List, length, get_or, map, nat_lt, Option, Some, refl, sym, ap, ◌∙◌, subst}
use Rattle.std.proofs.lemmas.Option.{same_Some}
use Rattle.std.specs.BTreeSet.{contains}
use Rattle.spg_base.specs.Row.{RowAt, row_cmp}
use Rattle.spg_opclass.specs.Meaning.{Meaning}
use Rattle.spg_forest.specs.View.{Place}
use Rattle.spg_tree.specs.Table as pages
use Rattle.spg_tree.specs.Table.{latch_at}
use Rattle.spg_vacuum.specs.declared.done.Done.TheVariants.{Latched}
use Rattle.spg_vacuum.specs.declared.done.Work.TheVariants as works
use Rattle.spg_vacuum.specs.declared.vacuum.Vacuum.{Vacuum}
use Rattle.spg_vacuum.specs.Latch.{IsHolder}
use Rattle.spg_vacuum.specs.Listing.{first_place}
use Rattle.spg_vacuum.specs.Vacuums.{work_at, block_at, IsNextHeld, IsBusy, BlockDone, FirstDone}
use Rattle.spg_seats.specs.Slots.{horizon_of}
use Rattle.spg_core.specs.declared.answer.VacuumOut.TheVariants as outs
use Rattle.spg_core.specs.declared.slot.Slot.{Slot}
use Rattle.spg_core.specs.declared.slot.Slot.TheVariants as slot
use Rattle.spg_core.specs.declared.kept.Kept.TheInside.{Inside}
use Rattle.spg_core.specs.declared.sweeping.Stepped.{Stepped}
use Rattle.spg_core.specs.Blocked.{WorkHeldIn}
use Rattle.spg_core.specs.Slot.{stage_of}
use Rattle.spg_core.specs.Seen.{untouched}
use Rattle.spg_core.specs.Sweeping.{DoesWork, SweepsFrom}
use Rattle.spg_core.proofs.Sectioning.{same_slot}

-- a section then does nothing
module _ (t t2 : pages.Table) (v : Vacuum) (test : RowAt → Bool) (horizon seat block by : ℕ) (same : t2 ≡ untouched t) where
  busy : (b : ℕ) → b ≡ block → IsHolder t block seat (Some by) → IsBusy t t2 v v b seat block by
  busy b is (held, other) = record { at = sym is; held = subst (λ (x : ℕ). latch_at t x ≡ Some by) (sym is) held; other = other; table = same; vacuum = refl }

  by_next : (todo : List Place) (more : Bool) → v.pending.todo ≡ todo → nat_lt v.next (length t.pages) ≡ more → block_at todo v.next more ≡ Some block → IsHolder t block seat (Some by) →
      ((work_at todo more ≡ works.Block) × BlockDone t t2 v v test horizon seat (Latched block by)) ⊎ ((work_at todo more ≡ works.Pending) × FirstDone t t2 v v test horizon seat (Latched block by))
  by_next [] true is lt next h = inl (refl, busy v.next (same_Some v.next block next) h)
  by_next [] false is lt next h = absurd (cc next)
  by_next (p ∷ ps) more is lt next h = inr (
    refl,
    λ q first.
        let e : Some p ≡ Some q = sym (ap first_place is) ∙ first in
        busy q.block (ap (λ (x : Place). x.block) (sym (same_Some p q e)) ∙ same_Some p.block block next) h,
  )

  pub held_work : IsNextHeld t v seat (Some (block, by)) → DoesWork t t2 v v test horizon seat (outs.Latched block by) []
  held_work (next, h) = (refl, by_next v.pending.todo (nat_lt v.next (length t.pages)) refl refl next h)

-- so is the slot of the vacuum
module _ {O Key Recon Cond : Type 0} (m : Meaning Key Recon Cond) (s : Inside O Key Recon Cond) (seat block by : ℕ) (t2 : pages.Table) (same : t2 ≡ untouched s.table) where
  abbrev pub Finds : Slot O Key Recon Cond → Type 0
  Finds x = (stepped : Stepped) × (stepped.out ≡ outs.Latched block by) × SweepsFrom m s.table t2 s.slots.items s.slots.items (contains row_cmp s.targets.rows) seat stepped x

  pub finds : (x : Slot O Key Recon Cond) → get_or s.slots.items seat slot.Free ≡ x → WorkHeldIn s.table (stage_of x) seat (Some (block, by)) → Finds x
  finds slot.Free here h = absurd h
  finds (slot.Insert key d) here h = absurd h
  finds (slot.Scan q) here h = absurd h
  finds (slot.Vacuum v) here h = (
    record { out = outs.Latched block by; rows = []; opened = v.at },
    refl,
    (v, sym (same_slot s.slots.items seat v v here refl), refl, held_work s.table t2 v (contains row_cmp s.targets.rows) (horizon_of (map stage_of s.slots.items) v.stamp) seat block by same h, tt),
  )

-- what was found for a slice of the slots is so for the slots
pub looked : {O Key Recon Cond : Type 0} (t : pages.Table) (xs ys : List (Slot O Key Recon Cond)) (seat : ℕ) (found held : Option (ℕ × ℕ)) → xs ≡ ys → found ≡ held → WorkHeldIn t (stage_of (get_or xs seat slot.Free)) seat found → WorkHeldIn t (stage_of (get_or ys seat slot.Free)) seat held
looked {O} {Key} {Recon} {Cond} t xs ys seat found held e is h =
    subst (λ (zs : List (Slot O Key Recon Cond)). WorkHeldIn t (stage_of (get_or zs seat slot.Free)) seat held) e
    (subst (λ (r : Option (ℕ × ℕ)). WorkHeldIn t (stage_of (get_or xs seat slot.Free)) seat r) is h)
