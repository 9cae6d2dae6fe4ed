-- Each section that handles something leaves fewer.
use Rattle.std.proofs.Common.{◌≡◌, ℕ, suc, ◌+◌, ◌-◌, ◌<◌, ◌≤◌, Bool, true, false, nat_lt, List, [], ◌∷◌, ◌++◌, ◌⊎◌, ⊎_elim, Some, append_assoc, length, length-append, refl, sym, ap, subst, inl, inr, arith}
use Rattle.std.proofs.lemmas.Bool.{ltb-true}
use Rattle.spg_base.specs.Row.{RowAt}
use Rattle.spg_opclass.specs.Meaning.{Meaning}
use Rattle.spg_forest.specs.View.{Place}
use Rattle.spg_forest.specs.Sheets.{Sheets}
use Rattle.spg_forest.specs.Shape.{Shape}
use Rattle.spg_cover.specs.Vacuum.{VacuumHolds, Of, IsPlaceOf, listed}
use Rattle.spg_tree.specs.Table.{sheets_of, sheet_at}
use Rattle.spg_scan.proofs.Stands.{sheltered_there}
use Rattle.spg_vacuum.specs.declared.done.Work.TheVariants as works
use Rattle.spg_vacuum.specs.declared.vacuum.Vacuum.{Vacuum}
use Rattle.spg_vacuum.specs.Handled.{found_at, found_from}
use Rattle.spg_vacuum.specs.Listing.{first_place, first_done, Listing}
use Rattle.spg_vacuum.specs.Vacuums.{work_at}
use Rattle.spg_vacuum.proofs.Places.{listed_first}
use Rattle.spg_walks.proofs.Walks.{offset_at, number_at}
use Rattle.spg_sweeps.specs.Sweeps.{places_on, times, sections_at, sections_left, IsOnce, IsListedOnce, OpensOnce, SweepsFall}
use Rattle.spg_sweeps.proofs.Once.{AreOn, few_once, once_listed}

pub opens_once : OpensOnce
opens_once v none = subst (λ (l : Listing). IsOnce (l.done ++ l.todo)) (sym none) tt

-- ---- the next block

at_most : (limit next : ℕ) (done todo : List Place) → sections_at limit next done todo ≤ times (limit - next) (places_on limit + 2) + (places_on limit + 1)
at_most limit next done [] = omega arith
at_most limit next done (p ∷ ps) = omega arith

one_less : (limit next : ℕ) → next < limit → times (limit - next) (places_on limit + 2) ≡ (places_on limit + 2) + times (limit - (next + 1)) (places_on limit + 2)
one_less limit next h = let e : limit - next ≡ suc (limit - (next + 1)) = omega arith in ap (λ k. times k (places_on limit + 2)) e

by_block : (limit next pages : ℕ) (done todo found : List Place) → work_at todo (nat_lt next pages) ≡ works.Block → pages ≤ limit → IsOnce (done ++ todo) →
    IsOnce (done ++ listed done todo found) × (sections_at limit (next + 1) done (listed done todo found) < sections_at limit next done todo)
by_block limit next pages done (p ∷ ps) found is low once = cc
by_block limit next pages done [] found is low once =
    let more : next < limit = go (nat_lt next pages) refl is in
    let a = at_most limit (next + 1) done (listed done [] found) in
    let b = one_less limit next more in
    (once_listed done [] found once, omega (arith, a, b))
  where
    go : (b : Bool) → nat_lt next pages ≡ b → work_at [] b ≡ works.Block → next < limit
    go true e f = let a = ltb-true next pages e in omega (arith, a, low)
    go false e f = cc

-- ---- the first place to do

by_place : (limit next : ℕ) (done : List Place) (p : Place) (ps more : List Place) → length done < places_on limit + 1 → IsOnce (done ++ (p ∷ more)) →
    IsOnce ((first_done done (p ∷ more)).done ++ (first_done done (p ∷ more)).todo) × (sections_at limit next (first_done done (p ∷ more)).done (first_done done (p ∷ more)).todo < sections_at limit next done (p ∷ ps))
by_place limit next done p ps [] few once = (tt, omega arith)
by_place limit next done p ps (q ∷ qs) few once =
    let e : length (done ++ p ∷ []) ≡ length done + 1 = length-append done (p ∷ []) in
    (subst IsOnce (sym (append_assoc done (p ∷ []) (q ∷ qs))) once, omega (arith, e, few))

by_pending : (limit next : ℕ) (done todo found : List Place) (more : Bool) → work_at todo more ≡ works.Pending → length (done ++ todo) ≤ places_on limit → IsOnce (done ++ todo) →
    IsOnce ((first_done done (listed done todo found)).done ++ (first_done done (listed done todo found)).todo)
    × (sections_at limit next (first_done done (listed done todo found)).done (first_done done (listed done todo found)).todo < sections_at limit next done todo)
by_pending limit next done [] found true is few once = cc
by_pending limit next done [] found false is few once = cc
by_pending limit next done (p ∷ ps) found more is few once =
    let e = listed_first done p ps found in
    let l : length (done ++ p ∷ ps) ≡ length done + suc (length ps) = length-append done (p ∷ ps) in
    subst (λ (zs : List Place). IsOnce ((first_done done zs).done ++ (first_done done zs).todo) × (sections_at limit next (first_done done zs).done (first_done done zs).todo < sections_at limit next done (p ∷ ps))) (sym e)
    (by_place limit next done p ps (listed (done ++ p ∷ []) ps found) (omega (arith, l, few)) (subst (λ (zs : List Place). IsOnce (done ++ zs)) e (once_listed done (p ∷ ps) found once)))

first_of : (todo : List Place) (more : Bool) → work_at todo more ≡ works.Pending → (p : Place) × (first_place todo ≡ Some p)
first_of [] true is = cc
first_of [] false is = cc
first_of (p ∷ ps) more is = (p, refl)

-- ---- both

in_both : (xs ys : List Place) (p : Place) → IsPlaceOf (xs ++ ys) p → IsPlaceOf xs p ⊎ IsPlaceOf ys p
in_both [] ys p h = inr h
in_both (x ∷ xs) ys p (inl e) = inl (inl e)
in_both (x ∷ xs) ys p (inr h) = ⊎_elim (λ a. inl (inr a)) (λ b. inr b) (in_both xs ys p h)

-- each listed place is on a page: something stands there
are_on : {Key Recon Cond : Type 0} (m : Meaning Key Recon Cond) (S : Sheets) (H : Shape m S) (limit c b : ℕ) (done todo : List Place) (target : RowAt → Type 0) → length S.sheets ≤ limit → VacuumHolds m S c b done todo target → AreOn (places_on limit) (done ++ todo)
are_on m S H limit c b done todo target low holds p h =
    let (t, T) = ⊎_elim (holds.done_there p) (holds.undone_there p) (in_both done todo p h) in
    let full = sheltered_there m S H t p c T in
    let n = number_at m S H p full in
    (offset_at m S H p full, omega (arith, n, low))

pub sweeps_fall : {Key Recon Cond : Type 0} (m : Meaning Key Recon Cond) → SweepsFall m
sweeps_fall m limit t t2 v v2 test horizon seat rows H is low once (inl (work, (free, handles, after))) =
    subst (λ (z : Vacuum). IsListedOnce z × (sections_left limit z < sections_left limit v)) (sym after)
    (by_block limit v.next (length t.pages) v.pending.done v.pending.todo (found_at v.stamp (sheet_at t v.next)) work low once)
sweeps_fall m limit t t2 v v2 test horizon seat rows H is low once (inr (work, does)) =
    let (p, first) = first_of v.pending.todo (nat_lt v.next (length t.pages)) work in
    let (free, handles, after) = does p first in
    let few = few_once (places_on limit) (v.pending.done ++ v.pending.todo) once (are_on m (sheets_of t) H limit v.stamp v.next v.pending.done v.pending.todo (Of test) low is.cover) in
    subst (λ (z : Vacuum). IsListedOnce z × (sections_left limit z < sections_left limit v)) (sym after)
    (by_pending limit v.next v.pending.done v.pending.todo (found_from (sheet_at t p.block).inner v.stamp t p) (nat_lt v.next (length t.pages)) work few once)
