-- The block that a vacuum handles next, and that no other seat holds it.
use Rattle.std.proofs.Common.{◌≡◌, ℕ, ◌<◌, Bool, true, false, List, [], ◌∷◌, Some, None, Result, Ok, Err, OnErr, length, nat_lt, refl, sym, ap, ◌∙◌, subst, inl}
use Rattle.std.proofs.lemmas.Bool.{ltb-true}
use Rattle.std.proofs.lemmas.Option.{same_Some}
use Rattle.spg_base.specs.Row.{RowAt}
use Rattle.spg_opclass.specs.Meaning.{Meaning}
use Rattle.spg_forest.specs.View.{Place}
use Rattle.spg_forest.specs.Shape.{Shape}
use Rattle.spg_cover.specs.Vacuum.{Of, AreHigh}
use Rattle.spg_tree.specs.Table.{Table, sheets_of}
use Rattle.spg_vacuum.specs.declared.done.Work.TheVariants as works
use Rattle.spg_vacuum.specs.declared.vacuum.Vacuum.{Vacuum}
use Rattle.spg_vacuum.specs.Latch.{IsFree}
use Rattle.spg_vacuum.specs.Listing.{first_place}
use Rattle.spg_vacuum.specs.Vacuums.{work_at, work_of, block_at, next_block, IsVacuum, IsNextFree}
use Rattle.spg_vacuum.proofs.Keeping.{place_stands}

-- what holds at any answer
pub on_err : {T E P : Type 0} (r : Result T E) → P → OnErr r P
on_err (Ok x) p = tt
on_err (Err e) p = p

-- where a place is to do, its block is next
first_next : (todo : List Place) (next : ℕ) (more : Bool) (p : Place) → first_place todo ≡ Some p → block_at todo next more ≡ Some p.block
first_next [] next more p e = cc
first_next (q ∷ qs) next more p e = let k : q ≡ p = cc in ap (λ (x : Place). Some x.block) k

-- where a block is handled, it is next
block_next : (todo : List Place) (next : ℕ) (more : Bool) → work_at todo more ≡ works.Block → block_at todo next more ≡ Some next
block_next (p ∷ ps) next more e = cc
block_next [] next true e = refl
block_next [] next false e = cc

module _ (t : Table) (v : Vacuum) where
  pub next_free : (b seat : ℕ) → next_block v t ≡ Some b → IsFree t b seat → IsNextFree t v seat
  next_free b seat is free b2 is2 = subst (λ (x : ℕ). IsFree t x seat) (same_Some b b2 (sym is ∙ is2)) free

  pub none_next : (seat : ℕ) → next_block v t ≡ None → IsNextFree t v seat
  none_next seat is b is2 = let f : None ≡ Some b = sym is ∙ is2 in cc

  pub block_free : (seat : ℕ) → work_of v t ≡ works.Block → IsFree t v.next seat → IsNextFree t v seat
  block_free seat work free = next_free v.next seat (block_next v.pending.todo v.next (nat_lt v.next (length t.pages)) work) free

  pub place_free : (p : Place) (seat : ℕ) → first_place v.pending.todo ≡ Some p → IsFree t p.block seat → IsNextFree t v seat
  place_free p seat first free = next_free p.block seat (first_next v.pending.todo v.next (nat_lt v.next (length t.pages)) p first) free

  -- it is there
  module _ {Key Recon Cond : Type 0} (m : Meaning Key Recon Cond) (test : RowAt → Bool) (H : Shape m (sheets_of t)) (K : IsVacuum m t v (Of test)) (high : AreHigh v.pending.todo) (b : ℕ) where
    below : (todo : List Place) (more : Bool) → v.pending.todo ≡ todo → nat_lt v.next (length t.pages) ≡ more → block_at todo v.next more ≡ Some b → b < length t.pages
    below (p ∷ ps) more is lt e =
        let there = (place_stands m t v test H K p ps is (subst AreHigh is high p (inl refl))).0 in
        subst (λ (x : ℕ). x < length t.pages) (same_Some p.block b e) there
    below [] true is lt e = subst (λ (x : ℕ). x < length t.pages) (same_Some v.next b e) (ltb-true v.next (length t.pages) lt)
    below [] false is lt e = cc

    pub next_there : next_block v t ≡ Some b → b < length t.pages
    next_there e = below v.pending.todo (nat_lt v.next (length t.pages)) refl refl e
