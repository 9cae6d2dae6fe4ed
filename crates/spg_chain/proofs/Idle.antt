-- A page without targets is swept as it is.
use Rattle.std.proofs.Common.{◌≡◌, ℕ, zero, suc, ◌<◌, List, [], ◌∷◌, ⊎_elim, Bool, true, false, get_or, length, nat_eq, refl, sym, ap, ap₂, ◌∙◌, arith}
use Rattle.std.proofs.lemmas.Bool.{cases_Bool, cases_eq, cond-true, cond-false, eqb-true}
use mathlib.Core.Path.{fun_ext}
use Rattle.spg_base.specs.Row.{RowAt}
use Rattle.spg_forest.specs.View.{Leaf}
use Rattle.spg_forest.specs.Spot.{Spot, Branch, Bucket, Forward, Nothing}
use Rattle.spg_forest.specs.Tuples.{Tuple, Inner, Live, Dead, Redirect, Placeholder, IsChainOf, IsAmong, IsLaidOut, first_of, with_chain, without, spot_on}
use Rattle.spg_forest.specs.Pages.{tuple_on}
use Rattle.spg_forest.specs.Sheets.{Sheet}
use Rattle.spg_forest.proofs.Chain.{put_on_same, put_on_other}
use Rattle.spg_forest.proofs.Chains.{with_chain_other}
use Rattle.spg_forest.proofs.Joins.{stands_within}
use Rattle.spg_forest.proofs.Once.{laid_out_computed}
use Rattle.spg_page.specs.Reads.{leaf_in}
use Rattle.spg_cover.specs.Swept.{kept, kept_offsets, but_first, new_offsets, rewritten, swept_chain, swept_as, swept_upto, offsets_along, targets_on}
use Rattle.spg_cover.proofs.Offsets.{without_other}
use Rattle.spg_cover.proofs.Chains.{cases_among, chain_there}
use Rattle.spg_chain.specs.Chained.{IsLeafPage, IsSweptOf}

-- the chain put back where it stood
put_back : (T U : ℕ → Tuple) (os : List ℕ) (ls : List Leaf) → IsChainOf T os ls → (k : ℕ) → IsAmong k os → with_chain U os ls k ≡ T k
put_back T U [] ls c k a = absurd a
put_back T U (o ∷ os) [] c k a = absurd c
put_back T U (o ∷ os) (l ∷ ls) c k a = ⊎_elim
    (λ e. put_on_same (with_chain U os ls) o (Live l (first_of os)) k e ∙ sym (ap T e ∙ c.0))
    (λ n. put_on_other (with_chain U os ls) o (Live l (first_of os)) k n ∙ put_back T U os ls c.1 k (⊎_elim (λ e. absurd (n e)) (λ b. b) a)) (cases_eq k o)

module _ (test : RowAt → Bool) where
  abbrev NoTarget : (ℕ → Tuple) → Type 0
  NoTarget T = (o n : ℕ) (l : Leaf) → T o ≡ Live l n → test l.row ≡ false

  module _ (T : ℕ → Tuple) (N : NoTarget T) where
    all_kept : (os : List ℕ) (ls : List Leaf) → IsChainOf T os ls → (kept test ls ≡ ls) × (kept_offsets test os ls ≡ os)
    all_kept [] [] c = (refl, refl)
    all_kept [] (l ∷ ls) c = absurd c
    all_kept (o ∷ os) [] c = absurd c
    all_kept (o ∷ os) (l ∷ ls) c =
        let (a, b) = all_kept os ls c.1 in
        let e : test l.row ≡ false = N o (first_of os) l c.0 in
        (cond-false (test l.row) (kept test ls) (l ∷ kept test ls) e ∙ ap (λ xs. l ∷ xs) a, cond-false (test l.row) (kept_offsets test os ls) (o ∷ kept_offsets test os ls) e ∙ ap (λ xs. o ∷ xs) b)

    all_new : (os : List ℕ) (ls : List Leaf) → IsChainOf T os ls → new_offsets test os ls ≡ os
    all_new [] ls c = refl
    all_new (o ∷ os) [] c = absurd c
    all_new (o ∷ os) (l ∷ ls) c = ap (λ xs. o ∷ xs) (cond-false (test l.row) (but_first (kept_offsets test os ls)) (kept_offsets test os ls) (N o (first_of os) l c.0) ∙ (all_kept os ls c.1).1)

    chain_same : (S : ℕ → Spot) → IsLaidOut T S → (o : ℕ) (l : Leaf) (ls : List Leaf) → S o ≡ Bucket (l ∷ ls) → swept_chain test T (offsets_along T (l ∷ ls) o) (l ∷ ls) ≡ T
    chain_same S L o l ls e =
        let os : List ℕ = offsets_along T (l ∷ ls) o in
        let c = chain_there test T S L o l ls e in
        ap₂ (λ ps ks. rewritten T os ps ks) (all_new os (l ∷ ls) c) (all_kept os (l ∷ ls) c).0
        ∙ fun_ext (λ k. ⊎_elim (λ a. put_back T (without T os) os (l ∷ ls) c k a) (λ n. with_chain_other (without T os) os (l ∷ ls) k n ∙ without_other T os k n) (cases_among k os))

    as_same : (S : ℕ → Spot) → IsLaidOut T S → (o : ℕ) (s : Spot) → S o ≡ s → swept_as test T o s ≡ T
    as_same S L o (Bucket (l ∷ ls)) e = chain_same S L o l ls e
    as_same S L o (Bucket []) e = refl
    as_same S L o (Branch w ns) e = refl
    as_same S L o (Forward y u) e = refl
    as_same S L o Nothing e = refl

    upto_same : (n : ℕ) (S : ℕ → Spot) → IsLaidOut T S → ((o m : ℕ) (l : Leaf) → T o ≡ Live l m → o < n) → (k : ℕ) → swept_upto test n T k ≡ T
    upto_same n S L below zero = refl
    upto_same n S L below (suc k) = ap (λ (U : ℕ → Tuple). swept_as test U (suc k) (spot_on U n (suc k))) (upto_same n S L below k)
        ∙ as_same S L (suc k) (spot_on T n (suc k)) (ap (λ (Z : ℕ → Spot). Z (suc k)) (laid_out_computed T S n L below))

  none_at : (ts : List Tuple) → targets_on test ts ≡ [] → (k n : ℕ) (l : Leaf) → get_or ts k Placeholder ≡ Live l n → test l.row ≡ false
  none_at [] e k n l a = cc
  none_at (Live m i ∷ ts) e zero n l a = ⊎_elim
      (λ t. let q = sym (cond-true (test m.row) (m.row ∷ targets_on test ts) (targets_on test ts) t) ∙ e in cc)
      (λ f. ap (λ t. test (leaf_in t).row) (sym a) ∙ f) (cases_Bool (test m.row))
  none_at (Live m i ∷ ts) e (suc k) n l a = ⊎_elim
      (λ t. let q = sym (cond-true (test m.row) (m.row ∷ targets_on test ts) (targets_on test ts) t) ∙ e in cc)
      (λ f. none_at ts (sym (cond-false (test m.row) (m.row ∷ targets_on test ts) (targets_on test ts) f) ∙ e) k n l a) (cases_Bool (test m.row))
  none_at (Inner w ns ∷ ts) e zero n l a = cc
  none_at (Inner w ns ∷ ts) e (suc k) n l a = none_at ts e k n l a
  none_at (Dead ∷ ts) e zero n l a = cc
  none_at (Dead ∷ ts) e (suc k) n l a = none_at ts e k n l a
  none_at (Redirect y u ∷ ts) e zero n l a = cc
  none_at (Redirect y u ∷ ts) e (suc k) n l a = none_at ts e k n l a
  none_at (Placeholder ∷ ts) e zero n l a = cc
  none_at (Placeholder ∷ ts) e (suc k) n l a = none_at ts e k n l a

  none_on : (ts : List Tuple) → targets_on test ts ≡ [] → NoTarget (tuple_on ts)
  none_on ts e zero n l a = cc
  none_on ts e (suc k) n l a = none_at ts e k n l a

  -- the page as it is
  pub nothing_swept : (p : Sheet) → IsLeafPage p.tuples → targets_on test p.tuples ≡ [] → IsSweptOf test p p
  nothing_swept p P e = (
    refl,
    (
      refl,
      sym (upto_same (tuple_on p.tuples) (none_on p.tuples e) (suc (length p.tuples)) P.spots P.laid
          (λ o m l a. let h = stands_within p.tuples o (λ q. let c = sym a ∙ q in cc) in omega arith) (length p.tuples)),
    ),
  )

pub no_rows : (rs : List RowAt) → nat_eq (length rs) 0 ≡ true → rs ≡ []
no_rows [] e = refl
no_rows (r ∷ rs) e = let q = eqb-true (length (r ∷ rs)) 0 e in absurd (omega arith)
