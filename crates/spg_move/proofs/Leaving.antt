-- A page once one of its chains is taken away.
use Rattle.std.proofs.Common.{◌≡◌, ℕ, zero, suc, ◌+◌, ◌-◌, ◌≤◌, ◌<◌, false, List, [], ◌∷◌, ◌⊎◌, ⊎_elim, length, nat_eq, refl, sym, ap, ◌∙◌, subst, inl, inr, arith}
use Rattle.std.proofs.lemmas.Bool.{cases_eq, cond-false, ne_eqb}
use Rattle.spg_forest.specs.View.{Place, Leaf}
use Rattle.spg_forest.specs.Spot.{Spot, Bucket, Nothing, IsIn}
use Rattle.spg_forest.specs.Tuples.{Tuple, Live, Redirect, Placeholder, Shows, IsHead, IsLaidOut, IsChainOf, first_of, bucket, put_on, without}
use Rattle.spg_forest.specs.Pages.{tuple_on, with_tuple}
use Rattle.std.proofs.lemmas.List.{get_or-set_other}
use Rattle.spg_forest.specs.Sheets.{Sheet, blank, weight, size_of, with_tuples}
use Rattle.spg_forest.specs.Walk.{spread_on, spread_at}
use Rattle.spg_forest.proofs.Chain.{put_on_same, put_on_other}
use Rattle.spg_forest.proofs.Edits.{tuple_on-with}
use Rattle.spg_forest.proofs.Front.{nothing_at}
use Rattle.spg_forest.proofs.Joins.{weight_replaced}
use Rattle.spg_forest.proofs.Stock.{spread_with}
use Rattle.spg_chain.specs.Chains.{chain_members, offsets_of, BeginsAt}
use Rattle.spg_chain.specs.Taken.{emptied}
use Rattle.spg_chain.proofs.Emptied.{emptied_at, rest_laid_out}
use Rattle.spg_chain.proofs.Shown.{reads_shown, laid_chained, shown_begins}
use Rattle.spg_chain.proofs.Taking.{AreWithin, live_within, emptied_without, emptied_head}
use Rattle.spg_tree.specs.Table.{Table, sheet_at, tuples_at, with_sheet, with_tuples_at}
use Rattle.spg_move.specs.Moving.{left}

-- each leaf of a chain stands on the page
pub chain_leaf : (T : ℕ → Tuple) (os : List ℕ) (ls : List Leaf) (l : Leaf) → IsChainOf T os ls → IsIn l ls → (o : ℕ) × (n : ℕ) × (T o ≡ Live l n)
chain_leaf T [] [] l c a = absurd a
chain_leaf T [] (k ∷ ks) l c a = absurd c
chain_leaf T (o ∷ os) [] l c a = absurd c
chain_leaf T (o ∷ os) (k ∷ ks) l c (inl e) = (o, first_of os, c.0 ∙ ap (λ z. Live z (first_of os)) e)
chain_leaf T (o ∷ os) (k ∷ ks) l c (inr a) = chain_leaf T os ks l c.1 a

all_within : (ts : List Tuple) (os : List ℕ) (ls : List Leaf) → IsChainOf (tuple_on ts) os ls → AreWithin (length ts) os
all_within ts [] ls c = tt
all_within ts (o ∷ os) [] c = absurd c
all_within ts (o ∷ os) (l ∷ ls) c = let h = live_within ts o l (first_of os) c.0 in (h.0, h.1, all_within ts os ls c.1)

-- a chain behind its head stays once the head is gone
behind_head : (T : ℕ → Tuple) (o : ℕ) → IsHead T o → (k : ℕ) (y : Leaf) (os : List ℕ) (ls : List Leaf) → T k ≡ Live y (first_of os) → IsChainOf T os ls → IsChainOf (put_on T o Placeholder) os ls
behind_head T o d k y [] [] e c = tt
behind_head T o d k y [] (l ∷ ls) e c = c
behind_head T o d k y (p ∷ ps) [] e c = c
behind_head T o d k y (p ∷ ps) (l ∷ ls) e c = (put_on_other T o Placeholder p (λ q. d k y (e ∙ ap (λ j. Live y j) q)) ∙ c.0, behind_head T o d p l ps ls c.0 c.1)

-- a tuple with a next one spreads by 1
next_spreads : (T : ℕ → Tuple) (l k : Leaf) (os : List ℕ) (ks : List Leaf) → T 0 ≡ Placeholder → IsChainOf T os (k ∷ ks) → spread_at (Live l (first_of os)) ≡ 1
next_spreads T l k [] ks z c = absurd c
next_spreads T l k (zero ∷ os) ks z c = let a = sym z ∙ c.0 in cc
next_spreads T l k (suc o ∷ os) ks z c = cond-false (nat_eq (suc o) 0) 0 1 (ne_eqb (suc o) 0 (λ e. absurd (omega arith)))

-- what the page loses with the leaves of the chain
record Lost (ts us : List Tuple) (ls : List Leaf) : Type 0 where
  spread : spread_on us + (length ls - 1) ≤ spread_on ts
  weight_is : weight us ≤ weight ts

emptied_lost : (ts : List Tuple) (Z : ℕ → Spot) → IsLaidOut (tuple_on ts) Z → (os : List ℕ) (ls : List Leaf) → IsChainOf (tuple_on ts) os ls → Z (first_of os) ≡ bucket ls → Lost ts (emptied ts os) ls
emptied_lost ts Z L [] [] c s = record { spread = omega arith; weight_is = omega arith }
emptied_lost ts Z L [] (l ∷ ls) c s = absurd c
emptied_lost ts Z L (o ∷ os) [] c s = absurd c
emptied_lost ts Z L (o ∷ os) (l ∷ ls) c s =
    let us : List Tuple = with_tuple ts o Placeholder in
    let e : tuple_on ts o ≡ Live l (first_of os) = c.0 in
    let w = live_within ts o l (first_of os) e in
    let d : IsHead (tuple_on ts) o = (subst (λ (t : Spot). Shows (tuple_on ts) o t) s (L.shows o)).1 in
    let Z2 : ℕ → Spot = put_on (put_on Z o Nothing) (first_of os) (bucket ls) in
    let L2 : IsLaidOut (tuple_on us) Z2 = rest_laid_out ts Z L o (first_of os) l ls e s in
    let c2 : IsChainOf (tuple_on us) os ls = subst (λ (T : ℕ → Tuple). IsChainOf T os ls) (sym (emptied_at ts o l (first_of os) e)) (behind_head (tuple_on ts) o d o l os ls e c.1) in
    let h = emptied_lost us Z2 L2 os ls c2 (put_on_same (put_on Z o Nothing) (first_of os) (bucket ls) (first_of os) refl) in
    let a = spread_with ts o Placeholder w.0 (let k = w.1 in omega arith) in
    let b = weight_replaced ts o Placeholder w.0 w.1 in
    let es = ap spread_at e in
    let ew = ap size_of e in
    record { spread = more ls (emptied us os) us (λ k ks q. let z = next_spreads (tuple_on ts) l k os ks L.origin (subst (λ zs. IsChainOf (tuple_on ts) os zs) q c.1) in omega arith) (omega arith) h.spread; weight_is = let f = h.weight_is in omega arith }
  where
    more : (ls : List Leaf) (vs us : List Tuple) → ((k : Leaf) (ks : List Leaf) → ls ≡ k ∷ ks → spread_on us + 1 ≡ spread_on ts) → spread_on us ≤ spread_on ts → spread_on vs + (length ls - 1) ≤ spread_on us → spread_on vs + (length (l ∷ ls) - 1) ≤ spread_on ts
    more [] vs us one le h = omega arith
    more (k ∷ ks) vs us one le h = let a = one k ks refl in omega arith

-- of tuples with placeholders among them each is as it was, or a placeholder
without_cases : (T : ℕ → Tuple) (os : List ℕ) (k : ℕ) → (without T os k ≡ T k) ⊎ (without T os k ≡ Placeholder)
without_cases T [] k = inl refl
without_cases T (o ∷ os) k = ⊎_elim
    (λ e. ⊎_elim (λ q. inr (e ∙ put_on_same T o Placeholder k q)) (λ n. inl (e ∙ put_on_other T o Placeholder k n)) (cases_eq k o))
    (λ e. inr e) (without_cases (put_on T o Placeholder) os k)

-- the chain of the leaves ls at h, on a page that shows Z
module _ (ts : List Tuple) (Z : ℕ → Spot) (L : IsLaidOut (tuple_on ts) Z) (h : ℕ) (ls : List Leaf) (s : Z h ≡ Bucket ls) where
  abbrev os : List ℕ
  os = offsets_of (chain_members ts h)

  pub linked : IsChainOf (tuple_on ts) os ls
  linked = (reads_shown ts h Z ls L s).linked

  at_first : Z (first_of os) ≡ bucket ls
  at_first = go os ls linked (reads_shown ts h Z ls L s).begins s
    where
      go : (ps : List ℕ) (ks : List Leaf) → IsChainOf (tuple_on ts) ps ks → BeginsAt h ps → Z h ≡ Bucket ks → Z (first_of ps) ≡ bucket ks
      go [] [] c b q = nothing_at (tuple_on ts) 0 (Z 0) (L.shows 0) L.origin
      go [] (k ∷ ks) c b q = absurd c
      go (p ∷ ps) [] c b q = absurd c
      go (p ∷ ps) (k ∷ ks) c b q = ap Z b ∙ q

  module _ (to : Place) (stamp : ℕ) where
    there : (0 < h) × (h ≤ length (emptied ts os)) × (16 ≤ size_of (tuple_on (emptied ts os) h))
    there = let k = emptied_head ts h (laid_chained ts Z L) (shown_begins ts Z L h ls s) in (k.0.0, k.0.1, k.1)

    pub left_spread : spread_on (left ts h to stamp) + (length ls - 1) ≤ spread_on ts
    left_spread =
        let a = spread_with (emptied ts os) h (Redirect to stamp) there.0 (let k = there.1 in omega arith) in
        let b = (emptied_lost ts Z L os ls linked at_first).spread in omega arith

    pub left_weight : weight (left ts h to stamp) ≤ weight ts
    left_weight =
        let a = weight_replaced (emptied ts os) h (Redirect to stamp) there.0 there.1 in
        let b = (emptied_lost ts Z L os ls linked at_first).weight_is in let c = there.2 in omega arith

    pub left_tuple : (o : ℕ) → (tuple_on (left ts h to stamp) o ≡ tuple_on ts o) ⊎ (tuple_on (left ts h to stamp) o ≡ Placeholder) ⊎ ((o ≡ h) × (tuple_on (left ts h to stamp) o ≡ Redirect to stamp))
    left_tuple o =
        let e : tuple_on (left ts h to stamp) o ≡ put_on (tuple_on (emptied ts os)) h (Redirect to stamp) o = ap (λ (T : ℕ → Tuple). T o) (tuple_on-with (emptied ts os) h (Redirect to stamp) there.0 (let k = there.1 in omega arith)) in
        let f : tuple_on (emptied ts os) o ≡ without (tuple_on ts) os o = ap (λ (T : ℕ → Tuple). T o) (emptied_without ts os (all_within ts os ls linked)) in
        ⊎_elim (λ q. inr (inr (q, e ∙ put_on_same (tuple_on (emptied ts os)) h (Redirect to stamp) o q)))
        (λ n. let g = e ∙ put_on_other (tuple_on (emptied ts os)) h (Redirect to stamp) o n ∙ f in ⊎_elim (λ q. inl (g ∙ q)) (λ q. inr (inl (g ∙ q))) (without_cases (tuple_on ts) os o)) (cases_eq o h)

-- the same in a table
pub left_page : (t : Table) (b : ℕ) (p q : Sheet) (h : ℕ) (to : Place) (stamp clock : ℕ) → p ≡ sheet_at t b → stamp ≡ clock → q ≡ with_tuples p (left p.tuples h to stamp) → with_sheet t b q ≡ with_tuples_at t b (left (tuples_at t b) h to clock)
left_page t b p q h to stamp clock e f g = ap (with_sheet t b) (g ∙ ap (λ (s : Sheet). with_tuples s (left s.tuples h to stamp)) e) ∙ ap (λ n. with_tuples_at t b (left (tuples_at t b) h to n)) f

-- the other pages stay
pub other_page : (t t2 : Table) (b c : ℕ) (us : List Tuple) → t2 ≡ with_tuples_at t b us → (c ≡ b → ⊥) → tuples_at t2 c ≡ tuples_at t c
other_page t t2 b c us e n = ap (λ (z : Table). tuples_at z c) e ∙ ap (λ (s : Sheet). s.tuples) (get_or-set_other t.pages b c (with_tuples (sheet_at t b) us) (blank false) n)
