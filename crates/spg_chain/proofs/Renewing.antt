-- The loop that writes a chain anew, from its last offset to its first.
use Rattle.std.proofs.Common.{◌≡◌, ℕ, suc, ◌+◌, ◌≤◌, ◌<◌, List, [], ◌∷◌, ⊎_elim, Option, Some, None, Bool, true, false, drop, length, get_or, IfSome, refl, sym, ap, ap₂, ◌∙◌, subst, inl, inr, arith}
use Rattle.std.specs.Prelude.{cond, nat_eq}
use Rattle.std.proofs.lemmas.Bool.{cases_Bool, cond-true, cond-false, cases_eq}
use mathlib.Core.Path.{fun_ext}
use Rattle.spg_base.specs.Row.{RowAt}
use Rattle.spg_forest.specs.View.{Leaf}
use Rattle.spg_forest.specs.Tuples.{Tuple, Inner, Live, Dead, Redirect, Placeholder, IsAmong, first_of, next_of, put_on, with_chain, without}
use Rattle.spg_forest.specs.Pages.{tuple_on, with_tuple}
use Rattle.spg_forest.specs.Sheets.{Sheet, with_tuples, size_of, weight, relinked}
use Rattle.spg_forest.proofs.Chain.{put_on_same, put_on_other}
use Rattle.spg_forest.proofs.Chains.{put_back, with_chain_other}
use Rattle.spg_forest.proofs.Edits.{tuple_on-with}
use Rattle.spg_forest.proofs.Joins.{weight_replaced}
use Rattle.spg_page.specs.Reads.{leaf_in}
use Rattle.spg_page.specs.Told.{number_of}
use Rattle.spg_page.specs.Kinds.{IsOffset, IsLive}
use Rattle.spg_page.specs.Changes.{free_of}
use Rattle.spg_cover.specs.Swept.{but_first}
use Rattle.spg_cover.proofs.Offsets.{Apart, without_among}
use Rattle.spg_cover.proofs.Written.{same_length}
use Rattle.spg_chain.specs.Sweeps.{IsChainList, IsRenewed, stays, leaves_at, renewed}
use Rattle.spg_chain.proofs.Staying.{get_among, drop_at, drop_end, stays_among, stays_apart, stays_behind, list_range, list_live, list_apart, list_some, among_drop, apart_drop}

-- what stands once a chain's offsets are gone along, the last first: a placeholder at a target, and each leaf that stays leads to the next that does
abbrev pub done : (RowAt → Bool) → (ℕ → Tuple) → List ℕ → ℕ → Tuple
done test T [] = T
done test T (o ∷ os) = put_on (done test T os) o (cond (test (leaf_in (T o)).row) Placeholder (Live (leaf_in (T o)) (first_of (stays test T os))))

abbrev pub head_of : List ℕ → Option ℕ
head_of [] = None
head_of (o ∷ os) = Some o

-- ---- a write at one offset depends on what stands there alone
without_at : (T U : ℕ → Tuple) (os : List ℕ) (k : ℕ) → T k ≡ U k → without T os k ≡ without U os k
without_at T U [] k e = e
without_at T U (o ∷ os) k e = without_at (put_on T o Placeholder) (put_on U o Placeholder) os k (ap (λ t. cond (nat_eq k o) Placeholder t) e)

with_chain_at : (T U : ℕ → Tuple) (os : List ℕ) (ls : List Leaf) (k : ℕ) → T k ≡ U k → with_chain T os ls k ≡ with_chain U os ls k
with_chain_at T U [] ls k e = e
with_chain_at T U (o ∷ os) [] k e = e
with_chain_at T U (o ∷ os) (l ∷ ls) k e = ap (λ t. cond (nat_eq k o) (Live l (first_of os)) t) (with_chain_at T U os ls k e)

module _ (test : RowAt → Bool) (T : ℕ → Tuple) where
  pub done_other : (os : List ℕ) (k : ℕ) → (IsAmong k os → ⊥) → done test T os k ≡ T k
  done_other [] k n = refl
  done_other (o ∷ os) k n = put_on_other (done test T os) o _ k (λ e. n (inl e)) ∙ done_other os k (λ a. n (inr a))

  abbrev chain_then : List ℕ → List ℕ → ℕ → Tuple
  chain_then os ks = with_chain (without T os) ks (leaves_at T ks)

  done_at : (os : List ℕ) (k : ℕ) → Apart os → done test T os k ≡ chain_then os (stays test T os) k
  done_at [] k a = refl
  done_at (o ∷ os) k (n, a) = ⊎_elim here (there (done_at os k a)) (cases_eq k o)
    where
      b : Bool
      b = test (leaf_in (T o)).row

      K : List ℕ
      K = stays test T os

      t : Tuple
      t = cond (test (leaf_in (T o)).row) Placeholder (Live (leaf_in (T o)) (first_of (stays test T os)))

      went : test (leaf_in (T o)).row ≡ true → stays test T (o ∷ os) ≡ stays test T os
      went e = cond-true (test (leaf_in (T o)).row) (stays test T os) (o ∷ stays test T os) e

      stayed : test (leaf_in (T o)).row ≡ false → stays test T (o ∷ os) ≡ o ∷ stays test T os
      stayed e = cond-false (test (leaf_in (T o)).row) (stays test T os) (o ∷ stays test T os) e

      not_among : (k ≡ o) → IsAmong k (stays test T os) → ⊥
      not_among q m = n (subst (λ x. IsAmong x os) q (stays_among test T os k m))

      here : k ≡ o → done test T (o ∷ os) k ≡ chain_then (o ∷ os) (stays test T (o ∷ os)) k
      here q = put_on_same (done test T os) o t k q ∙ ⊎_elim
          (λ e. cond-true (test (leaf_in (T o)).row) Placeholder (Live (leaf_in (T o)) (first_of (stays test T os))) e
          ∙ sym (without_among T (o ∷ os) k (inl q))
          ∙ sym (with_chain_other (without T (o ∷ os)) (stays test T os) (leaves_at T (stays test T os)) k (not_among q))
          ∙ ap (λ ks. chain_then (o ∷ os) ks k) (sym (went e)))
          (λ e. cond-false (test (leaf_in (T o)).row) Placeholder (Live (leaf_in (T o)) (first_of (stays test T os))) e
          ∙ sym (put_on_same (with_chain (without T (o ∷ os)) (stays test T os) (leaves_at T (stays test T os))) o (Live (leaf_in (T o)) (first_of (stays test T os))) k q)
          ∙ ap (λ ks. chain_then (o ∷ os) ks k) (sym (stayed e))) (cases_Bool (test (leaf_in (T o)).row))

      below : (k ≡ o → ⊥) → with_chain (without T os) (stays test T os) (leaves_at T (stays test T os)) k ≡ with_chain (without T (o ∷ os)) (stays test T os) (leaves_at T (stays test T os)) k
      below q = with_chain_at (without T os) (without T (o ∷ os)) (stays test T os) (leaves_at T (stays test T os)) k
          (without_at T (put_on T o Placeholder) os k (sym (put_on_other T o Placeholder k q)))

      there : done test T os k ≡ chain_then os (stays test T os) k → (k ≡ o → ⊥) → done test T (o ∷ os) k ≡ chain_then (o ∷ os) (stays test T (o ∷ os)) k
      there i q = put_on_other (done test T os) o t k q ∙ i ∙ below q ∙ ⊎_elim
          (λ e. ap (λ ks. chain_then (o ∷ os) ks k) (sym (went e)))
          (λ e. sym (put_on_other (with_chain (without T (o ∷ os)) (stays test T os) (leaves_at T (stays test T os))) o (Live (leaf_in (T o)) (first_of (stays test T os))) k q)
          ∙ ap (λ ks. chain_then (o ∷ os) ks k) (sym (stayed e))) (cases_Bool (test (leaf_in (T o)).row))

  -- that is the chain of those that stay
  pub done_is : (os : List ℕ) → Apart os → done test T os ≡ with_chain (without T os) (stays test T os) (leaves_at T (stays test T os))
  done_is os a = fun_ext (λ k. done_at os k a)

-- what holds once the offsets from `left` on are gone along
pub record Renewing (test : RowAt → Bool) (p0 : Sheet) (os : List ℕ) (page : Sheet) (first : Option ℕ) (left : ℕ) : Type 0 where
  pub few : left ≤ length os
  pub page_is : page ≡ with_tuples p0 page.tuples
  pub same : length page.tuples ≡ length p0.tuples
  pub at : tuple_on page.tuples ≡ done test (tuple_on p0.tuples) (drop left os)
  pub first_is : first ≡ head_of (stays test (tuple_on p0.tuples) (drop left os))

head_some : (ks : List ℕ) (p : ℕ) → Some p ≡ head_of ks → ks ≡ p ∷ but_first ks
head_some [] p e = cc
head_some (k ∷ ks) p e = let q : p ≡ k = cc in ap (λ i. i ∷ ks) (sym q)

head_none : (ks : List ℕ) → None ≡ head_of ks → ks ≡ []
head_none [] e = refl
head_none (k ∷ ks) e = cc

number_first : (ks : List ℕ) → number_of (head_of ks) ≡ first_of ks
number_first [] = refl
number_first (k ∷ ks) = refl

relinked_live : (t : Tuple) (n : ℕ) → IsLive t → relinked t n ≡ Live (leaf_in t) n
relinked_live (Live l m) n e = refl
relinked_live (Inner w ns) n e = cc
relinked_live Dead n e = cc
relinked_live (Redirect y u) n e = cc
relinked_live Placeholder n e = cc

pub first_get : (os : List ℕ) (h : ℕ) → 0 < length os → h ≡ get_or os 0 h → h ≡ first_of os
first_get [] h n e = absurd (omega arith)
first_get (o ∷ os) h n e = e

module _ (test : RowAt → Bool) (p0 : Sheet) (os : List ℕ) (C : IsChainList p0.tuples os) where
  abbrev T : ℕ → Tuple
  T = tuple_on p0.tuples

  pub renewing_begun : Renewing test p0 os p0 None (length os)
  renewing_begun =
      let e : drop (length os) os ≡ [] = drop_end os (length os) (omega arith) in
      record {
        few = omega arith;
        page_is = refl;
        same = refl;
        at = ap (done test T) (sym e);
        first_is = ap (λ ds. head_of (stays test T ds)) (sym e);
      }

  module _ (page : Sheet) (first : Option ℕ) (left : ℕ) (R : Renewing test p0 os page first left) where
    pub any_offset : (x : ℕ) → IsAmong x os → IsOffset page.tuples x
    any_offset x a = let (i, j) = list_range p0.tuples os C x a in let e = R.same in (i, omega arith)

    module _ (j o : ℕ) (l : left ≡ suc j) (e : o ≡ get_or os j o) where
      within : j < length os
      within = let f = R.few in omega arith

      pub among : IsAmong o os
      among = subst (λ x. IsAmong x os) (sym e) (get_among os j o within)

      one_more : drop j os ≡ o ∷ drop left os
      one_more = drop_at os j o within ∙ ap₂ (λ x i. x ∷ drop i os) (sym e) (sym l)

      -- nothing is written there yet
      pub still : tuple_on page.tuples o ≡ tuple_on p0.tuples o
      still = ap (λ (U : ℕ → Tuple). U o) R.at ∙ done_other test T (drop left os) o (subst Apart one_more (apart_drop j os (list_apart p0.tuples os C))).0

      pub still_live : IsLive (tuple_on page.tuples o)
      still_live = subst IsLive (sym still) (list_live p0.tuples os C o among)

      put_at : (t : Tuple) → tuple_on (with_tuple page.tuples o t) ≡ put_on (done test T (drop left os)) o t
      put_at t = let (i, k) = any_offset o among in tuple_on-with page.tuples o t i (omega arith) ∙ ap (λ (U : ℕ → Tuple). put_on U o t) R.at

      then_same : (t : Tuple) → length (with_tuple page.tuples o t) ≡ length p0.tuples
      then_same t = let (i, k) = any_offset o among in same_length page.tuples o t i k ∙ R.same

      earlier : stays test T (drop j os) ≡ cond (test (leaf_in (T o)).row) (stays test T (drop left os)) (o ∷ stays test T (drop left os))
      earlier = ap (stays test T) one_more

      pub renewing_target : test (leaf_in (tuple_on page.tuples o)).row ≡ true → Renewing test p0 os (with_tuples page (with_tuple page.tuples o Placeholder)) first j
      renewing_target h =
          let g : test (leaf_in (tuple_on p0.tuples o)).row ≡ true = ap (λ t. test (leaf_in t).row) (sym still) ∙ h in
          let q : stays test T (drop j os) ≡ stays test T (drop left os) = earlier ∙ cond-true (test (leaf_in (T o)).row) (stays test T (drop left os)) (o ∷ stays test T (drop left os)) g in
          let f = R.few in
          record {
            few = omega arith;
            page_is = ap (λ (s : Sheet). with_tuples s (with_tuple page.tuples o Placeholder)) R.page_is;
            same = then_same Placeholder;
            at = put_at Placeholder ∙ ap (λ t. put_on (done test T (drop left os)) o t) (sym (cond-true (test (leaf_in (T o)).row) Placeholder (Live (leaf_in (T o)) (first_of (stays test T (drop left os)))) g)) ∙ ap (done test T) (sym one_more);
            first_is = R.first_is ∙ ap head_of (sym q);
          }

      pub renewing_stays : test (leaf_in (tuple_on page.tuples o)).row ≡ false → Renewing test p0 os (with_tuples page (with_tuple page.tuples o (relinked (tuple_on page.tuples o) (number_of first)))) (Some o) j
      renewing_stays h =
          let g : test (leaf_in (tuple_on p0.tuples o)).row ≡ false = ap (λ t. test (leaf_in t).row) (sym still) ∙ h in
          let q : stays test T (drop j os) ≡ o ∷ stays test T (drop left os) = earlier ∙ cond-false (test (leaf_in (T o)).row) (stays test T (drop left os)) (o ∷ stays test T (drop left os)) g in
          let u : Tuple = relinked (tuple_on page.tuples o) (number_of first) in
          let w : relinked (tuple_on page.tuples o) (number_of first) ≡ Live (leaf_in (T o)) (first_of (stays test T (drop left os))) =
          relinked_live (tuple_on page.tuples o) (number_of first) still_live ∙ ap₂ (λ t n. Live (leaf_in t) n) still (ap number_of R.first_is ∙ number_first (stays test T (drop left os))) in
          let f = R.few in
          record {
            few = omega arith;
            page_is = ap (λ (s : Sheet). with_tuples s (with_tuple page.tuples o u)) R.page_is;
            same = then_same u;
            at = put_at u ∙ ap (λ t. put_on (done test T (drop left os)) o t) (w ∙ sym (cond-false (test (leaf_in (T o)).row) Placeholder (Live (leaf_in (T o)) (first_of (stays test T (drop left os)))) g)) ∙ ap (done test T) (sym one_more);
            first_is = ap head_of (sym q);
          }

    pub first_positive : IfSome first (λ o. 0 < o)
    first_positive = subst (λ (n : Option ℕ). IfSome n (λ o. 0 < o)) (sym R.first_is) (by (stays test (tuple_on p0.tuples) (drop left os)) (λ x a. (list_range p0.tuples os C x (among_drop left os x (stays_among test (tuple_on p0.tuples) (drop left os) x a))).0))
      where
        by : (xs : List ℕ) → ((x : ℕ) → IsAmong x xs → 0 < x) → IfSome (head_of xs) (λ o. 0 < o)
        by [] h = tt
        by (x ∷ xs) h = h x (inl refl)

  -- ---- at the end
  abbrev K : List ℕ
  K = stays test (tuple_on p0.tuples) os

  abbrev W : ℕ → Tuple
  W = without (tuple_on p0.tuples) os

  K_in : (x : ℕ) → IsAmong x (stays test (tuple_on p0.tuples) os) → IsAmong x os
  K_in x a = stays_among test (tuple_on p0.tuples) os x a

  K_apart : Apart (stays test (tuple_on p0.tuples) os)
  K_apart = stays_apart test (tuple_on p0.tuples) os (list_apart p0.tuples os C)

  end_at : (page : Sheet) (first : Option ℕ) → Renewing test p0 os page first 0 → tuple_on page.tuples ≡ with_chain (without (tuple_on p0.tuples) os) (stays test (tuple_on p0.tuples) os) (leaves_at (tuple_on p0.tuples) (stays test (tuple_on p0.tuples) os))
  end_at page first R = R.at ∙ done_is test (tuple_on p0.tuples) os (list_apart p0.tuples os C)

  module _ (page : Sheet) (h : ℕ) (eh : h ≡ first_of os) where
    head_in : IsAmong h os
    head_in = subst (λ x. IsAmong x os) (sym eh) (by os (list_some p0.tuples os C))
      where
        by : (xs : List ℕ) → 0 < length xs → IsAmong (first_of xs) xs
        by [] n = absurd (omega arith)
        by (x ∷ xs) n = inl refl

    pub renewed_none : Renewing test p0 os page None 0 → IsRenewed test p0 os (with_tuples page (with_tuple page.tuples h Dead))
    renewed_none R =
        let k : stays test (tuple_on p0.tuples) os ≡ [] = head_none (stays test (tuple_on p0.tuples) os) R.first_is in
        let (i, j) = any_offset page None 0 R h head_in in
        record {
          page = ap (λ (s : Sheet). with_tuples s (with_tuple page.tuples h Dead)) R.page_is;
          same = same_length page.tuples h Dead i j ∙ R.same;
          tuples = tuple_on-with page.tuples h Dead i (omega arith)
              ∙ ap (λ (U : ℕ → Tuple). put_on U h Dead) (end_at page None R ∙ ap (λ ks. with_chain W ks (leaves_at T ks)) k)
              ∙ ap (λ x. put_on W x Dead) eh ∙ ap (λ ks. renewed T os ks) (sym k);
        }

    module _ (p : ℕ) (R : Renewing test p0 os page (Some p) 0) where
      is_first : stays test (tuple_on p0.tuples) os ≡ p ∷ but_first (stays test (tuple_on p0.tuples) os)
      is_first = head_some (stays test (tuple_on p0.tuples) os) p R.first_is

      abbrev ks : List ℕ
      ks = but_first (stays test (tuple_on p0.tuples) os)

      p_in : IsAmong p os
      p_in = K_in p (subst (IsAmong p) (sym is_first) (inl refl))

      stands : tuple_on page.tuples ≡ with_chain (without (tuple_on p0.tuples) os) (p ∷ but_first (stays test (tuple_on p0.tuples) os)) (leaves_at (tuple_on p0.tuples) (p ∷ but_first (stays test (tuple_on p0.tuples) os)))
      stands = end_at page (Some p) R ∙ ap (λ xs. with_chain W xs (leaves_at T xs)) is_first

      pub renewed_there : p ≡ h → IsRenewed test p0 os page
      renewed_there e = record {
        page = R.page_is;
        same = R.same;
        tuples = stands ∙ ap (λ x. with_chain W (x ∷ ks) (leaves_at T (p ∷ ks))) (e ∙ eh) ∙ ap (λ xs. renewed T os xs) (sym is_first);
      }

      at_first : tuple_on page.tuples p ≡ Live (leaf_in (tuple_on p0.tuples p)) (first_of (but_first (stays test (tuple_on p0.tuples) os)))
      at_first = ap (λ (U : ℕ → Tuple). U p) stands ∙ put_on_same (with_chain W ks (leaves_at T ks)) p (Live (leaf_in (T p)) (first_of ks)) p refl

      pub first_offset : IsOffset page.tuples p
      first_offset = any_offset page (Some p) 0 R p p_in

      pub first_live : IsLive (tuple_on page.tuples p)
      first_live = subst IsLive (sym at_first) refl

      pub head_offset : IsOffset page.tuples h
      head_offset = any_offset page (Some p) 0 R h head_in

      behind_head : IsAmong h (but_first (stays test (tuple_on p0.tuples) os)) → ⊥
      behind_head = by os (list_apart p0.tuples os C) (list_some p0.tuples os C) eh
        where
          by : (xs : List ℕ) → Apart xs → 0 < length xs → h ≡ first_of xs → IsAmong h (but_first (stays test (tuple_on p0.tuples) xs)) → ⊥
          by [] a n q b = b
          by (x ∷ xs) a n q b = a.0 (subst (λ y. IsAmong y xs) q (stays_behind test (tuple_on p0.tuples) x xs h b))

      -- where another leaf is the first that stays, the head was a target
      pub head_empty : (p ≡ h → ⊥) → tuple_on page.tuples h ≡ Placeholder
      head_empty n = ap (λ (U : ℕ → Tuple). U h) stands
          ∙ with_chain_other W (p ∷ ks) (leaves_at T (p ∷ ks)) h (λ a. ⊎_elim (λ q. n (sym q)) behind_head a)
          ∙ without_among (tuple_on p0.tuples) os h head_in

      pub renewed_moved : IsRenewed test p0 os (with_tuples page (with_tuple (with_tuple page.tuples p Placeholder) h (tuple_on page.tuples p)))
      renewed_moved =
          let us : List Tuple = with_tuple page.tuples p Placeholder in
          let t : Tuple = tuple_on page.tuples p in
          let (i, j) = first_offset in
          let (a, b) = head_offset in
          let n : length (with_tuple page.tuples p Placeholder) ≡ length page.tuples = same_length page.tuples p Placeholder i j in
          let gone : put_on (tuple_on page.tuples) p Placeholder ≡ with_chain W ks (leaves_at T ks) =
          ap (λ (U : ℕ → Tuple). put_on U p Placeholder) stands ∙ put_back (with_chain W ks (leaves_at T ks)) p (Live (leaf_in (T p)) (first_of ks)) Placeholder
          (with_chain_other W ks (leaves_at T ks) p (subst Apart is_first K_apart).0 ∙ without_among (tuple_on p0.tuples) os p p_in) in
          record {
            page = ap (λ (s : Sheet). with_tuples s (with_tuple us h t)) R.page_is;
            same = same_length us h t a (omega arith) ∙ n ∙ R.same;
            tuples = tuple_on-with us h t a (omega arith) ∙ ap (λ (U : ℕ → Tuple). put_on U h t) (tuple_on-with page.tuples p Placeholder i (omega arith) ∙ gone)
                ∙ ap₂ (λ x z. put_on (with_chain W ks (leaves_at T ks)) x z) eh at_first ∙ ap (λ xs. renewed T os xs) (sym is_first);
          }

-- a tuple has room in the place of a placeholder once its own bytes are given back
pub moved_room : (ts : List Tuple) (from to : ℕ) → IsOffset ts from → tuple_on ts to ≡ Placeholder → 16 ≤ size_of (tuple_on ts from) → weight ts ≤ 8160 →
    size_of (tuple_on ts from) ≤ size_of (tuple_on (with_tuple ts from Placeholder) to) + free_of (with_tuple ts from Placeholder)
moved_room ts from to (i, j) e big fits =
    let w = weight_replaced ts from Placeholder i j in
    let z : tuple_on (with_tuple ts from Placeholder) to ≡ Placeholder = ap (λ (U : ℕ → Tuple). U to) (tuple_on-with ts from Placeholder i (omega arith)) ∙ ⊎_elim (λ a. put_on_same (tuple_on ts) from Placeholder to a) (λ a. put_on_other (tuple_on ts) from Placeholder to a ∙ e) (cases_eq to from) in
    let y = ap size_of z in
    omega arith

-- a live leaf tuple is its leaf and its next offset
pub live_parts : (t : Tuple) → IsLive t → t ≡ Live (leaf_in t) (next_of t)
live_parts (Live l m) v = refl
live_parts (Inner w ns) v = cc
live_parts Dead v = cc
live_parts (Redirect y u) v = cc
live_parts Placeholder v = cc
