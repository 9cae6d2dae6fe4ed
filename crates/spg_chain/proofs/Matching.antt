-- A chain that was written anew is the chain swept.
use Rattle.std.proofs.Common.{◌≡◌, ℕ, suc, ◌+◌, ◌<◌, List, [], ◌∷◌, ⊎_elim, Bool, true, false, ◌||◌, set, get_or, length, nat_eq, refl, sym, ap, ap₂, ◌∙◌, subst, arith}
use Rattle.std.specs.Prelude.{cond}
use Rattle.std.proofs.lemmas.Bool.{cases_Bool, cond-true, cond-false, cases_eq, or_left, or_from, ne_eqb, eq-eqb}
use Rattle.std.proofs.lemmas.List.{get_or-set_same, get_or-set_other}
use Rattle.spg_base.specs.Row.{RowAt}
use Rattle.spg_forest.specs.View.{Leaf}
use Rattle.spg_forest.specs.Spot.{Bucket}
use Rattle.spg_forest.specs.Tuples.{Tuple, Live, Placeholder, IsChainOf, first_of, is_led_to, next_of}
use Rattle.spg_forest.specs.Pages.{tuple_on}
use Rattle.spg_page.specs.Reads.{leaf_in}
use Rattle.spg_cover.specs.Swept.{kept, kept_offsets, but_first, new_offsets, rewritten, swept_chain, swept_as}
use Rattle.spg_chain.specs.Sweeps.{IsChainList, stays, leaves_at, renewed}
use Rattle.spg_chain.proofs.Staying.{list_chain}

-- chains of one list of leaves from one offset on are at the same offsets
pub offsets_once : (T : ℕ → Tuple) (os ps : List ℕ) (ls : List Leaf) → IsChainOf T os ls → IsChainOf T ps ls → first_of os ≡ first_of ps → os ≡ ps
offsets_once T [] [] [] c d e = refl
offsets_once T [] (p ∷ ps) [] c d e = absurd d
offsets_once T (o ∷ os) ps [] c d e = absurd c
offsets_once T [] ps (l ∷ ls) c d e = absurd c
offsets_once T (o ∷ os) [] (l ∷ ls) c d e = absurd d
offsets_once T (o ∷ os) (p ∷ ps) (l ∷ ls) c d e =
    let a : Live l (first_of os) ≡ Live l (first_of ps) = sym c.0 ∙ ap T e ∙ d.0 in
    let q : first_of os ≡ first_of ps = cc in
    ap₂ (λ x xs. x ∷ xs) e (offsets_once T os ps ls c.1 d.1 q)

module _ (test : RowAt → Bool) (T : ℕ → Tuple) where
  same_test : (o n : ℕ) (l : Leaf) → T o ≡ Live l n → test (leaf_in (T o)).row ≡ test l.row
  same_test o n l e = ap (λ t. test (leaf_in t).row) e

  offsets_stay : (os : List ℕ) (ls : List Leaf) → IsChainOf T os ls → kept_offsets test os ls ≡ stays test T os
  offsets_stay [] ls c = refl
  offsets_stay (o ∷ os) [] c = absurd c
  offsets_stay (o ∷ os) (l ∷ ls) c = ap₂ (λ b ps. cond b ps (o ∷ ps)) (sym (same_test o (first_of os) l c.0)) (offsets_stay os ls c.1)

  leaves_stay : (os : List ℕ) (ls : List Leaf) → IsChainOf T os ls → kept test ls ≡ leaves_at T (stays test T os)
  leaves_stay [] [] c = refl
  leaves_stay [] (l ∷ ls) c = absurd c
  leaves_stay (o ∷ os) [] c = absurd c
  leaves_stay (o ∷ os) (l ∷ ls) c = ⊎_elim
      (λ e. cond-true (test l.row) (kept test ls) (l ∷ kept test ls) e ∙ leaves_stay os ls c.1 ∙ ap (leaves_at T) (sym (cond-true _ (stays test T os) (o ∷ stays test T os) (same_test o (first_of os) l c.0 ∙ e))))
      (λ e. cond-false (test l.row) (kept test ls) (l ∷ kept test ls) e ∙ ap₂ (λ x xs. x ∷ xs) (sym (ap leaf_in c.0)) (leaves_stay os ls c.1) ∙ ap (leaves_at T) (sym (cond-false _ (stays test T os) (o ∷ stays test T os) (same_test o (first_of os) l c.0 ∙ e)))) (cases_Bool (test l.row))

  new_stay : (os : List ℕ) (ls : List Leaf) (p : ℕ) (ps : List ℕ) → IsChainOf T os ls → stays test T os ≡ p ∷ ps → new_offsets test os ls ≡ first_of os ∷ ps
  new_stay [] ls p ps c e = cc
  new_stay (o ∷ os) [] p ps c e = absurd c
  new_stay (o ∷ os) (l ∷ ls) p ps c e =
      let k : kept_offsets test os ls ≡ stays test T os = offsets_stay os ls c.1 in ⊎_elim
      (λ g. let s : stays test T os ≡ p ∷ ps = sym (cond-true _ (stays test T os) (o ∷ stays test T os) (same_test o (first_of os) l c.0 ∙ g)) ∙ e in
      ap (λ xs. o ∷ xs) (cond-true (test l.row) (but_first (kept_offsets test os ls)) (kept_offsets test os ls) g ∙ ap but_first (k ∙ s)))
      (λ g. let s : o ∷ stays test T os ≡ p ∷ ps = sym (cond-false _ (stays test T os) (o ∷ stays test T os) (same_test o (first_of os) l c.0 ∙ g)) ∙ e in
      ap (λ xs. o ∷ xs) (cond-false (test l.row) (but_first (kept_offsets test os ls)) (kept_offsets test os ls) g ∙ k ∙ ap but_first s)) (cases_Bool (test l.row))

module _ (test : RowAt → Bool) (ts : List Tuple) (os : List ℕ) (C : IsChainList ts os) where
  abbrev T : ℕ → Tuple
  T = tuple_on ts

  pub renewed_is : renewed (tuple_on ts) os (stays test (tuple_on ts) os) ≡ swept_as test (tuple_on ts) C.head (Bucket (C.leaf ∷ C.leaves))
  renewed_is = subst (λ ps. renewed T os (stays test T os) ≡ swept_chain test T ps (C.leaf ∷ C.leaves)) C.offsets (go (stays test T os) refl)
    where
      chain : IsChainOf (tuple_on ts) os (C.leaf ∷ C.leaves)
      chain = list_chain ts os C

      go : (K : List ℕ) → stays test (tuple_on ts) os ≡ K → renewed (tuple_on ts) os (stays test (tuple_on ts) os) ≡ swept_chain test (tuple_on ts) os (C.leaf ∷ C.leaves)
      go [] e = ap (λ K. renewed T os K) e ∙ ap (λ ks. rewritten T os (new_offsets test os (C.leaf ∷ C.leaves)) ks) (sym (leaves_stay test T os (C.leaf ∷ C.leaves) chain ∙ ap (leaves_at T) e))
      go (k ∷ ks) e = ap (λ K. renewed T os K) e
          ∙ ap₂ (λ ps xs. rewritten T os ps xs) (sym (new_stay test T os (C.leaf ∷ C.leaves) k ks chain e)) (sym (leaves_stay test T os (C.leaf ∷ C.leaves) chain ∙ ap (leaves_at T) e))

-- ---- what leads to an offset
pub led_more : (T : ℕ → Tuple) (k o : ℕ) → is_led_to T k o ≡ false → nat_eq (next_of (T k)) o ≡ false → is_led_to T (suc k) o ≡ false
led_more T k o e f = or_from _ _ f e

pub led_begun : (T : ℕ → Tuple) (o : ℕ) → T 0 ≡ Placeholder → 0 < o → is_led_to T (0 + 1) o ≡ false
led_begun T o e h = subst (λ n. is_led_to T n o ≡ false) one (led_more T 0 o refl (ap (λ t. nat_eq (next_of t) o) e ∙ ne_eqb 0 o (λ q. absurd (omega arith))))
  where
    one : 1 ≡ 0 + 1
    one = omega arith

led_next : (T : ℕ → Tuple) (k o : ℕ) (b : Bool) → is_led_to T (suc (k + 1)) o ≡ b → is_led_to T (k + 1 + 1) o ≡ b
led_next T k o b e = subst (λ i. is_led_to T i o ≡ b) next e
  where
    next : suc (k + 1) ≡ k + 1 + 1
    next = omega arith

-- the marks of the first tuples and of one more, which leads to o or elsewhere
pub led_step : (T : ℕ → Tuple) (k o : ℕ) → (next_of (T (k + 1)) ≡ o → ⊥) → is_led_to T (k + 1 + 1) o ≡ is_led_to T (k + 1) o
led_step T k o n = led_next T k o (is_led_to T (k + 1) o) (ap (λ b. b || is_led_to T (k + 1) o) (ne_eqb (next_of (T (k + 1))) o n))

pub led_true : (T : ℕ → Tuple) (k o : ℕ) → next_of (T (k + 1)) ≡ o → is_led_to T (k + 1 + 1) o ≡ true
led_true T k o e = led_next T k o true (or_left _ _ (eq-eqb (next_of (T (k + 1))) o e))

pub led_marked : (T : ℕ → Tuple) (led : List Bool) (k n o : ℕ) → n ≡ next_of (T (k + 1)) → n < length led → get_or led o false ≡ is_led_to T (k + 1) o → get_or (set led n true) o false ≡ is_led_to T (k + 1 + 1) o
led_marked T led k n o e h g = ⊎_elim
    (λ q. ap (λ i. get_or (set led n true) i false) q ∙ get_or-set_same led n true false h ∙ sym (led_true T k o (sym e ∙ sym q)))
    (λ q. get_or-set_other led n o true false q ∙ g ∙ sym (led_step T k o (λ r. q (sym r ∙ sym e)))) (cases_eq o n)
