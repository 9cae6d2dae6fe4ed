-- What a page shows once lists of leaves were added to it.
use Rattle.std.proofs.Common.{◌≡◌, ℕ, zero, suc, ◌+◌, ◌<◌, List, [], ◌∷◌, length, ◌⊎◌, ⊎_elim, Some, None, get_or, slice_get, refl, sym, ap, ◌∙◌, subst, inl, inr, arith}
use Rattle.std.proofs.lemmas.Bool.{cases_eq}
use Rattle.spg_forest.specs.View.{Place, Leaf}
use Rattle.spg_forest.specs.Spot.{Spot, Bucket, Nothing, IsIn}
use Rattle.spg_forest.specs.Tuples.{Tuple, Live, IsLaidOut, put_on}
use Rattle.spg_forest.specs.Pages.{place, tuple_on}
use Rattle.spg_forest.specs.Sheets.{free_place}
use Rattle.spg_forest.proofs.Chain.{put_on_same, put_on_other}
use Rattle.spg_forest.proofs.Front.{nothing_at}
use Rattle.spg_page.proofs.SheetFacts.{free_place_free}
use Rattle.spg_split.specs.Placing.{head_of, downlink, placed, downlinks}
use Rattle.spg_chain.specs.Listed.{chained}
use Rattle.spg_chain.proofs.Listing.{list_laid, list_tuple}

pub placed_tuple : (ts : List Tuple) (L : ℕ → List Leaf) (k n o : ℕ) → (tuple_on (placed ts L k n) o ≡ tuple_on ts o) ⊎ ((j : ℕ) × (l : Leaf) × (i : ℕ) × IsIn l (L j) × (tuple_on (placed ts L k n) o ≡ Live l i))
placed_tuple ts L k zero o = inl refl
placed_tuple ts L k (suc n) o = ⊎_elim
    (λ e. ⊎_elim (λ q. inl (e ∙ q)) (λ (l, i, a, q). inr (k, l, i, a, e ∙ q)) (list_tuple ts (L k) o))
    (λ x. inr x) (placed_tuple (chained ts 0 (L k)) L (suc k) n o)

-- what the page shows then: each list at its downlink, and elsewhere what it showed
pub record ShowsLists (ts : List Tuple) (Y : ℕ → Spot) (b : ℕ) (L : ℕ → List Leaf) (k n : ℕ) : Type 0 where
  pub spots : ℕ → Spot
  pub laid : IsLaidOut (tuple_on (placed ts L k n)) spots
  pub lists : (i : ℕ) (y : Place) → get_or (downlinks b ts L k n) i None ≡ Some y → (y.block ≡ b) × (spots y.offset ≡ Bucket (L (k + i))) × (Y y.offset ≡ Nothing) × (y.offset ≡ 0 → ⊥)
  pub apart : (i j : ℕ) (y : Place) → get_or (downlinks b ts L k n) i None ≡ Some y → get_or (downlinks b ts L k n) j None ≡ Some y → i ≡ j
  pub cases : (o : ℕ) → ((i : ℕ) × (get_or (downlinks b ts L k n) i None ≡ Some (place b o))) ⊎ (spots o ≡ Y o)

-- the list of node k, and then the others
first_shown : (ts us : List Tuple) (Y Y1 : ℕ → Spot) (b : ℕ) (L : ℕ → List Leaf) (k n : ℕ) → us ≡ chained ts 0 (L k) →
    ((y : Place) → downlink b (head_of ts (L k)) ≡ Some y → (y.block ≡ b) × (Y1 y.offset ≡ Bucket (L k)) × (Y y.offset ≡ Nothing) × (y.offset ≡ 0 → ⊥)) →
    ((o : ℕ) → (downlink b (head_of ts (L k)) ≡ Some (place b o)) ⊎ (Y1 o ≡ Y o)) → ShowsLists us Y1 b L (suc k) n → ShowsLists ts Y b L k (suc n)
first_shown ts us Y Y1 b L k n e here there R =
    let S = subst (λ vs. ShowsLists vs Y1 b L (suc k) n) e R in record {
      spots = S.spots;
      laid = S.laid;
      lists = lists S;
      apart = apart S;
      cases = λ o. ⊎_elim (λ (i, q). inl (suc i, q)) (λ q. ⊎_elim (λ a. inl (0, a)) (λ a. inr (q ∙ a)) (there o)) (S.cases o);
    }
  where
    vs : List Tuple
    vs = chained ts 0 (L k)

    -- no later downlink leads to the first list
    other : (S : ShowsLists vs Y1 b L (suc k) n) (i : ℕ) (y : Place) → get_or (downlinks b vs L (suc k) n) i None ≡ Some y → downlink b (head_of ts (L k)) ≡ Some y → ⊥
    other S i y a c = let (p, q, r, s) = S.lists i y a in let (p1, q1, r1, s1) = here y c in let z : Bucket (L k) ≡ Nothing = sym q1 ∙ r in cc

    lists : (S : ShowsLists vs Y1 b L (suc k) n) (i : ℕ) (y : Place) → get_or (downlink b (head_of ts (L k)) ∷ downlinks b vs L (suc k) n) i None ≡ Some y → (y.block ≡ b) × (S.spots y.offset ≡ Bucket (L (k + i))) × (Y y.offset ≡ Nothing) × (y.offset ≡ 0 → ⊥)
    lists S zero y a =
        let (p, q, r, s) = here y a in
        let z : k ≡ k + 0 = omega arith in
        let yb : place b y.offset ≡ y = λ i. record { block = sym p i; offset = y.offset } in
        (p, ⊎_elim (λ (i, c). absurd (other S i y (c ∙ ap Some yb) a)) (λ c. c ∙ q ∙ ap (λ i. Bucket (L i)) z) (S.cases y.offset), r, s)
    lists S (suc i) y a =
        let (p, q, r, s) = S.lists i y a in
        let z : suc k + i ≡ k + suc i = omega arith in
        let yb : place b y.offset ≡ y = λ i. record { block = sym p i; offset = y.offset } in
        (p, q ∙ ap (λ i. Bucket (L i)) z, ⊎_elim (λ c. absurd (other S i y a (c ∙ ap Some yb))) (λ c. sym c ∙ r) (there y.offset), s)

    apart : (S : ShowsLists vs Y1 b L (suc k) n) (i j : ℕ) (y : Place) → get_or (downlink b (head_of ts (L k)) ∷ downlinks b vs L (suc k) n) i None ≡ Some y → get_or (downlink b (head_of ts (L k)) ∷ downlinks b vs L (suc k) n) j None ≡ Some y → i ≡ j
    apart S zero zero y a c = refl
    apart S zero (suc j) y a c = absurd (other S j y c a)
    apart S (suc i) zero y a c = absurd (other S i y a c)
    apart S (suc i) (suc j) y a c = ap suc (S.apart i j y a c)

pub shows_lists : (ts : List Tuple) (Y : ℕ → Spot) (b : ℕ) (L : ℕ → List Leaf) (k n : ℕ) → IsLaidOut (tuple_on ts) Y → ShowsLists ts Y b L k n
shows_lists ts Y b L k zero H = record {
  spots = Y;
  laid = H;
  lists = λ i y e. cc;
  apart = λ i j y e f. cc;
  cases = λ o. inr refl;
}
shows_lists ts Y b L k (suc n) H = go (λ us Y1 N. shows_lists us Y1 b L (suc k) n N) (L k) refl
  where
    go : ((us : List Tuple) (Y1 : ℕ → Spot) → IsLaidOut (tuple_on us) Y1 → ShowsLists us Y1 b L (suc k) n) → (ls : List Leaf) → ls ≡ L k → ShowsLists ts Y b L k (suc n)
    go next [] e =
        let d : downlink b (head_of ts (L k)) ≡ None = ap (λ ls. downlink b (head_of ts ls)) (sym e) in
        first_shown ts ts Y Y b L k n (ap (chained ts 0) e) (λ y a. let c : None ≡ Some y = sym d ∙ a in cc) (λ o. inr refl) (next ts Y H)
    go next (l ∷ ls) e =
        let h : ℕ = suc (free_place ts) in
        let Y1 : ℕ → Spot = put_on Y h (Bucket (l ∷ ls)) in
        let d : downlink b (head_of ts (L k)) ≡ Some (place b h) = ap (λ ls. downlink b (head_of ts ls)) (sym e) in
        let free : Y h ≡ Nothing = nothing_at (tuple_on ts) h (Y h) (H.shows h) (free_place_free ts) in
        first_shown ts (chained ts 0 (l ∷ ls)) Y Y1 b L k n (ap (chained ts 0) e)
        (λ y a. let c : Some (place b h) ≡ Some y = sym d ∙ a in let q : place b h ≡ y = cc in
        subst (λ (u : Place). (u.block ≡ b) × (Y1 u.offset ≡ Bucket (L k)) × (Y u.offset ≡ Nothing) × (u.offset ≡ 0 → ⊥)) q (refl, put_on_same Y h (Bucket (l ∷ ls)) h refl ∙ ap Bucket e, free, λ z. absurd (omega arith)))
        (λ o. ⊎_elim (λ q. inl (d ∙ ap (λ i. Some (place b i)) (sym q))) (λ q. inr (put_on_other Y h (Bucket (l ∷ ls)) o q)) (cases_eq o h))
        (next (chained ts 0 (l ∷ ls)) Y1 (list_laid ts Y l ls H))

pub downlinks_length : (b : ℕ) (ts : List Tuple) (L : ℕ → List Leaf) (k n : ℕ) → length (downlinks b ts L k n) ≡ n
downlinks_length b ts L k zero = refl
downlinks_length b ts L k (suc n) = ap suc (downlinks_length b (chained ts 0 (L k)) L (suc k) n)

head_positive : (b : ℕ) (ts : List Tuple) (ls : List Leaf) (y : Place) → 0 < b → downlink b (head_of ts ls) ≡ Some y → (0 < y.block) × (0 < y.offset)
head_positive b ts [] y h e = cc
head_positive b ts (l ∷ ls) y h e = let q : place b (suc (free_place ts)) ≡ y = cc in subst (λ (u : Place). (0 < u.block) × (0 < u.offset)) q (h, omega arith)

-- no downlink leads to block 0 or offset 0
pub downlinks_positive : (b : ℕ) (ts : List Tuple) (L : ℕ → List Leaf) (k n i : ℕ) (y : Place) → 0 < b → slice_get (downlinks b ts L k n) i ≡ Some (Some y) → (0 < y.block) × (0 < y.offset)
downlinks_positive b ts L k zero i y h e = cc
downlinks_positive b ts L k (suc n) zero y h e = let q : downlink b (head_of ts (L k)) ≡ Some y = cc in head_positive b ts (L k) y h q
downlinks_positive b ts L k (suc n) (suc i) y h e = downlinks_positive b (chained ts 0 (L k)) L (suc k) n i y h e

-- the downlink to a list with a leaf
pub downlink_there : (b : ℕ) (ts : List Tuple) (L : ℕ → List Leaf) (k n i : ℕ) (l : Leaf) → i < n → IsIn l (L (k + i)) → (y : Place) × (get_or (downlinks b ts L k n) i None ≡ Some y)
downlink_there b ts L k zero i l h a = absurd (omega arith)
downlink_there b ts L k (suc n) zero l h a = let e : k + 0 ≡ k = omega arith in go (L k) (subst (λ j. IsIn l (L j)) e a)
  where
    go : (ls : List Leaf) → IsIn l ls → (y : Place) × (downlink b (head_of ts ls) ≡ Some y)
    go [] a = absurd a
    go (m ∷ ms) a = (place b (suc (free_place ts)), refl)
downlink_there b ts L k (suc n) (suc i) l h a = let e : k + suc i ≡ suc k + i = omega arith in downlink_there b (chained ts 0 (L k)) L (suc k) n i l (omega arith) (subst (λ j. IsIn l (L j)) e a)

-- and to a list without one there is none
pub downlink_none : (b : ℕ) (ts : List Tuple) (L : ℕ → List Leaf) (k n i : ℕ) → L (k + i) ≡ [] → get_or (downlinks b ts L k n) i None ≡ None
downlink_none b ts L k zero i e = refl
downlink_none b ts L k (suc n) zero e = let z : k + 0 ≡ k = omega arith in ap (λ ls. downlink b (head_of ts ls)) (ap L (sym z) ∙ e)
downlink_none b ts L k (suc n) (suc i) e = let z : k + suc i ≡ suc k + i = omega arith in downlink_none b (chained ts 0 (L k)) L (suc k) n i (ap L (sym z) ∙ e)
