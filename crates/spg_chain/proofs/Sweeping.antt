-- The loop that sweeps the chains of a page.
use Rattle.std.proofs.Common.{◌≡◌, ℕ, suc, ◌+◌, ◌≤◌, ◌<◌, List, [], ◌∷◌, ⊎_elim, Bool, true, false, ◌&&◌, not, length, refl, sym, ap, ◌∙◌, subst, arith}
use Rattle.std.specs.Prelude.{cond}
use Rattle.std.proofs.lemmas.Bool.{cases_Bool, cond-true, cond-false, and_parts}
use Rattle.spg_base.specs.Row.{RowAt}
use Rattle.spg_forest.specs.View.{Leaf}
use Rattle.spg_forest.specs.Spot.{Spot, Branch, Bucket, Forward, Nothing}
use Rattle.spg_forest.specs.Tuples.{Tuple, Inner, Live, Dead, Redirect, Placeholder, IsChainOf, IsLaidOut, Shows, first_of, spot_on, is_led_to, chain_at}
use Rattle.spg_forest.specs.Pages.{tuple_on}
use Rattle.spg_forest.specs.Sheets.{Sheet, with_tuples, size_of}
use Rattle.spg_forest.proofs.Joins.{stands_within}
use Rattle.spg_forest.proofs.Once.{laid_out_computed}
use Rattle.spg_chain.specs.Chains.{is_live, offsets_of, chain_members, ReadsShown, BeginsAt}
use Rattle.spg_cover.specs.Swept.{swept_as, swept_upto, offsets_along}
use Rattle.spg_cover.proofs.Offsets.{along_chain}
use Rattle.spg_cover.proofs.Chains.{upto, Upto, upto_spots, upto_later}
use Rattle.spg_cover.proofs.Tuples.{upto_has}
use Rattle.spg_chain.specs.Sweeps.{IsChainList, IsRenewed, is_chain_head}
use Rattle.spg_chain.specs.Chained.{IsLeafPage, IsSweptOf}
use Rattle.spg_chain.proofs.Matching.{offsets_once, renewed_is}

pub record Sweeping (test : RowAt → Bool) (p0 page : Sheet) (k : ℕ) : Type 0 where
  pub page_is : page ≡ with_tuples p0 page.tuples
  pub same : length page.tuples ≡ length p0.tuples
  pub at : tuple_on page.tuples ≡ swept_upto test (suc (length p0.tuples)) (tuple_on p0.tuples) k

pub sweeping_begun : (test : RowAt → Bool) (p0 : Sheet) → Sweeping test p0 p0 0
sweeping_begun test p0 = record { page_is = refl; same = refl; at = refl }

pub sweeping_done : (test : RowAt → Bool) (p0 page : Sheet) (k : ℕ) → k ≡ length p0.tuples → Sweeping test p0 page k → IsSweptOf test p0 page
sweeping_done test p0 page k e R = (R.page_is, (R.same, R.at ∙ ap (λ i. swept_upto test (suc (length p0.tuples)) (tuple_on p0.tuples) i) e))

-- what stands at a head, and at another offset
spot_head : (T : ℕ → Tuple) (n o : ℕ) (t : Tuple) → T o ≡ t → is_live t ≡ true → is_led_to T n o ≡ false → (l : Leaf) × (ls : List Leaf) × (spot_on T n o ≡ Bucket (l ∷ ls))
spot_head T n o (Live l m) e a b =
    let F : Tuple → Spot = λ t. elim t [ Inner w ns ↦ Branch w ns | Live l m ↦ cond (is_led_to T n o) Nothing (Bucket (l ∷ chain_at T n m)) | Dead ↦ Bucket [] | Redirect y u ↦ Forward y u | Placeholder ↦ Nothing ] in
    (l, chain_at T n m, ap F e ∙ cond-false (is_led_to T n o) Nothing (Bucket (l ∷ chain_at T n m)) b)
spot_head T n o (Inner w ns) e a b = cc
spot_head T n o Dead e a b = cc
spot_head T n o (Redirect y u) e a b = cc
spot_head T n o Placeholder e a b = cc

-- two pages that show the same at a live leaf tuple
spot_live : (T : ℕ → Tuple) (n o m : ℕ) (l : Leaf) → T o ≡ Live l m → spot_on T n o ≡ cond (is_led_to T n o) Nothing (Bucket (l ∷ chain_at T n m))
spot_live T n o m l e =
    let F : Tuple → Spot = λ t. elim t [ Inner w ns ↦ Branch w ns | Live l m ↦ cond (is_led_to T n o) Nothing (Bucket (l ∷ chain_at T n m)) | Dead ↦ Bucket [] | Redirect y u ↦ Forward y u | Placeholder ↦ Nothing ] in ap F e

same_side : (a b : Bool) (l k : Leaf) (ls ks : List Leaf) → cond a Nothing (Bucket (l ∷ ls)) ≡ cond b Nothing (Bucket (k ∷ ks)) → a ≡ b
same_side true true l k ls ks e = refl
same_side false false l k ls ks e = refl
same_side true false l k ls ks e = cc
same_side false true l k ls ks e = cc

one_led : (T U : ℕ → Tuple) (n m o : ℕ) (z y : Leaf) (i j : ℕ) → T o ≡ Live z i → U o ≡ Live y j → spot_on T n o ≡ spot_on U m o → is_led_to T n o ≡ is_led_to U m o
one_led T U n m o z y i j a b e = same_side (is_led_to T n o) (is_led_to U m o) z y (chain_at T n i) (chain_at U m j) (sym (spot_live T n o i z a) ∙ e ∙ spot_live U m o j y b)

no_head : (test : RowAt → Bool) (T : ℕ → Tuple) (n o : ℕ) (t : Tuple) → T o ≡ t → (is_live t && not (is_led_to T n o)) ≡ false → swept_as test T o (spot_on T n o) ≡ T
no_head test T n o t e a = ap (λ s. swept_as test T o s) (ap F e) ∙ by t a
  where
    F : Tuple → Spot
    F t = elim t [ Inner w ns ↦ Branch w ns | Live l m ↦ cond (is_led_to T n o) Nothing (Bucket (l ∷ chain_at T n m)) | Dead ↦ Bucket [] | Redirect y u ↦ Forward y u | Placeholder ↦ Nothing ]

    by : (t : Tuple) → (is_live t && not (is_led_to T n o)) ≡ false → swept_as test T o (F t) ≡ T
    by (Live l m) b = ⊎_elim (λ q. ap (λ s. swept_as test T o s) (cond-true (is_led_to T n o) Nothing (Bucket (l ∷ chain_at T n m)) q)) (λ q. let z : not (is_led_to T n o) ≡ false = b in let y = sym (ap not q) ∙ z in cc) (cases_Bool (is_led_to T n o))
    by (Inner w ns) b = refl
    by Dead b = refl
    by (Redirect y u) b = refl
    by Placeholder b = refl

module _ (test : RowAt → Bool) (p0 : Sheet) (P : IsLeafPage p0.tuples) (page : Sheet) (k : ℕ) (R : Sweeping test p0 page k) where
  abbrev n : ℕ
  n = suc (length p0.tuples)

  below : (o m : ℕ) (l : Leaf) → tuple_on p0.tuples o ≡ Live l m → o < suc (length p0.tuples)
  below o m l e = let h = stands_within p0.tuples o (λ q. let c = sym e ∙ q in cc) in omega arith

  U : Upto test (suc (length p0.tuples)) (tuple_on p0.tuples) P.spots k
  U = upto test n (tuple_on p0.tuples) P.spots P.laid below k

  laid1 : IsLaidOut (tuple_on page.tuples) (upto_spots test P.spots k)
  laid1 = subst (λ (T : ℕ → Tuple). IsLaidOut T (upto_spots test P.spots k)) (sym R.at) U.laid

  spot1 : upto_spots test P.spots k (suc k) ≡ spot_on (tuple_on page.tuples) (length page.tuples + 1) (suc k)
  spot1 =
      let m : suc (length p0.tuples) ≡ length page.tuples + 1 = (let s = R.same in omega arith) in
      U.spot ∙ ap (λ (T : ℕ → Tuple). spot_on T n (suc k)) (sym R.at) ∙ ap (λ i. spot_on (tuple_on page.tuples) i (suc k)) m

  big1 : (o : ℕ) → 16 ≤ size_of (tuple_on page.tuples o)
  big1 o = subst (λ (T : ℕ → Tuple). 16 ≤ size_of (T o)) (sym R.at)
      (upto_has test (λ x t. 16 ≤ size_of t) (λ x. omega arith) (λ x. omega arith) (λ x p i j l h. h) (tuple_on p0.tuples) P.spots P.laid n below P.big k o)

  -- whether a next offset leads to it, a live leaf tuple tells as before the sweep
  pub same_led : (o : ℕ) → suc k ≡ o → is_live (tuple_on page.tuples o) ≡ true → is_led_to (tuple_on page.tuples) (length page.tuples + 1) o ≡ is_led_to (tuple_on p0.tuples) (length p0.tuples + 1) o
  same_led o e v =
      let (z, i, q) = live_is (tuple_on page.tuples o) v in
      let (y, j, r) = U.lives o i z (ap (λ (T : ℕ → Tuple). T o) (sym R.at) ∙ q) in
      let m : suc (length p0.tuples) ≡ length p0.tuples + 1 = omega arith in
      let s : spot_on (tuple_on page.tuples) (length page.tuples + 1) o ≡ spot_on (tuple_on p0.tuples) (length p0.tuples + 1) o =
      subst (λ x. spot_on (tuple_on page.tuples) (length page.tuples + 1) x ≡ spot_on (tuple_on p0.tuples) (length p0.tuples + 1) x) e
      (sym spot1 ∙ upto_later test P.spots k (suc k) (omega arith) ∙ ap (λ (Z : ℕ → Spot). Z (suc k)) (laid_out_computed (tuple_on p0.tuples) P.spots (suc (length p0.tuples)) P.laid below) ∙ ap (λ x. spot_on (tuple_on p0.tuples) x (suc k)) m) in
      one_led (tuple_on page.tuples) (tuple_on p0.tuples) (length page.tuples + 1) (length p0.tuples + 1) o z y i j q r s
    where
      live_is : (t : Tuple) → is_live t ≡ true → (l : Leaf) × (n : ℕ) × (t ≡ Live l n)
      live_is (Live l n) v = (l, n, refl)
      live_is (Inner w ns) v = cc
      live_is Dead v = cc
      live_is (Redirect y u) v = cc
      live_is Placeholder v = cc

  at_head : (o : ℕ) → suc k ≡ o → is_chain_head page.tuples o ≡ true → (l : Leaf) × (ls : List Leaf) × (upto_spots test P.spots k o ≡ Bucket (l ∷ ls)) × (spot_on (tuple_on page.tuples) (length page.tuples + 1) o ≡ Bucket (l ∷ ls))
  at_head o e g =
      let (a, b) = and_parts _ _ g in
      let c : is_led_to (tuple_on page.tuples) (length page.tuples + 1) o ≡ false = not_true (is_led_to (tuple_on page.tuples) (length page.tuples + 1) o) b in
      let (l, ls, q) = spot_head (tuple_on page.tuples) (length page.tuples + 1) o (tuple_on page.tuples o) refl a c in
      (l, ls, subst (λ i. upto_spots test P.spots k i ≡ spot_on (tuple_on page.tuples) (length page.tuples + 1) i) e spot1 ∙ q, q)
    where
      not_true : (b : Bool) → not b ≡ true → b ≡ false
      not_true true e = cc
      not_true false e = refl

  -- the chain that is read there
  pub head_chain : (o : ℕ) → suc k ≡ o → is_chain_head page.tuples o ≡ true → (os : List ℕ) → os ≡ offsets_of (chain_members page.tuples o) → ReadsShown page.tuples o (chain_members page.tuples o) → (C : IsChainList page.tuples os) × (C.head ≡ o)
  head_chain o e g os q shown =
      let (l, ls, s, z) = at_head o e g in
      let A = shown (upto_spots test P.spots k) (l ∷ ls) laid1 s in
      let c : IsChainOf (tuple_on page.tuples) os (l ∷ ls) = subst (λ ps. IsChainOf (tuple_on page.tuples) ps (l ∷ ls)) (sym q) A.linked in
      let f : first_of os ≡ o = begins os l ls (subst (BeginsAt o) (sym q) A.begins) c in
      let (d, h) = along_chain (tuple_on page.tuples) (l ∷ ls) o (subst (λ (t : Spot). Shows (tuple_on page.tuples) o t) s (laid1.shows o)).0 in
      (record { spots = upto_spots test P.spots k; head = o; leaf = l; leaves = ls; laid = laid1; stands = s; offsets = offsets_once (tuple_on page.tuples) os (offsets_along (tuple_on page.tuples) (l ∷ ls) o) (l ∷ ls) c d (f ∙ sym h); big = big1 }, refl)
    where
      begins : (xs : List ℕ) (l : Leaf) (ls : List Leaf) → BeginsAt o xs → IsChainOf (tuple_on page.tuples) xs (l ∷ ls) → first_of xs ≡ o
      begins [] l ls b c = absurd c
      begins (x ∷ xs) l ls b c = b

  -- one step
  pub sweeping_head : (o : ℕ) → suc k ≡ o → (g : is_chain_head page.tuples o ≡ true) (os : List ℕ) (C : IsChainList page.tuples os) → C.head ≡ o → (page2 : Sheet) → IsRenewed test page os page2 → Sweeping test p0 page2 o
  sweeping_head o e g os C h page2 N =
      let m : length page.tuples + 1 ≡ suc (length p0.tuples) = (let r = R.same in omega arith) in
      let whole : swept_as test (tuple_on page.tuples) C.head (Bucket (C.leaf ∷ C.leaves)) ≡ swept_as test (tuple_on page.tuples) o (spot_on (tuple_on page.tuples) n o) =
      ap (λ i. swept_as test (tuple_on page.tuples) i (Bucket (C.leaf ∷ C.leaves))) h ∙ ap (λ t. swept_as test (tuple_on page.tuples) o t) (at_spot o e C h ∙ ap (λ i. spot_on (tuple_on page.tuples) i o) m) in
      record {
        page_is = N.page ∙ ap (λ (x : Sheet). with_tuples x page2.tuples) R.page_is;
        same = N.same ∙ R.same;
        at = N.tuples ∙ renewed_is test page.tuples os C ∙ whole ∙ ap (λ (T : ℕ → Tuple). swept_as test T o (spot_on T n o)) R.at ∙ ap (λ i. swept_as test (swept_upto test n (tuple_on p0.tuples) k) i (spot_on (swept_upto test n (tuple_on p0.tuples) k) n i)) (sym e)
            ∙ ap (λ i. swept_upto test n (tuple_on p0.tuples) i) e;
      }
    where
      -- what is laid out is one
      at_spot : (o : ℕ) → suc k ≡ o → {os : List ℕ} (C : IsChainList page.tuples os) → C.head ≡ o → Bucket (C.leaf ∷ C.leaves) ≡ spot_on (tuple_on page.tuples) (length page.tuples + 1) o
      at_spot o e C h = sym C.stands ∙ ap C.spots h ∙ ap (λ (Z : ℕ → Spot). Z o) (laid_out_computed (tuple_on page.tuples) C.spots (length page.tuples + 1) C.laid (λ x m l f. let i = stands_within page.tuples x (λ q. let c = sym f ∙ q in cc) in omega arith))

  pub sweeping_other : (o : ℕ) → suc k ≡ o → is_chain_head page.tuples o ≡ false → Sweeping test p0 page o
  sweeping_other o e g =
      let m : length page.tuples + 1 ≡ suc (length p0.tuples) = (let r = R.same in omega arith) in
      let q : swept_as test (tuple_on page.tuples) o (spot_on (tuple_on page.tuples) (length page.tuples + 1) o) ≡ tuple_on page.tuples = no_head test (tuple_on page.tuples) (length page.tuples + 1) o (tuple_on page.tuples o) refl g in
      record {
        page_is = R.page_is;
        same = R.same;
        at = sym q ∙ ap (λ i. swept_as test (tuple_on page.tuples) o (spot_on (tuple_on page.tuples) i o)) m ∙ ap (λ (T : ℕ → Tuple). swept_as test T o (spot_on T n o)) R.at
            ∙ ap (λ i. swept_as test (swept_upto test n (tuple_on p0.tuples) k) i (spot_on (swept_upto test n (tuple_on p0.tuples) k) n i)) (sym e) ∙ ap (λ i. swept_upto test n (tuple_on p0.tuples) i) e;
      }
