-- Entries in ascending order of their keys: what a search among them finds, and what a change of one entry does.
use Rattle.std.proofs.Common.{◌≡◌, ◌<◌, ◌≤◌, ◌-◌, ℕ, zero, suc, Bool, true, false, cond, List, [], ◌∷◌, ◌++◌, length, get_or, set, Option, Some, None, refl, sym, ap, ◌∙◌, inl, inr, arith}
use Rattle.std.proofs.lemmas.List.{get_or_default}
use Rattle.std.specs.Cmp.{IsTotalOrder, alike_right, tied_itself}
use Rattle.std.specs.Ordering.{is_eq, ordering_index, ordering_reverse}
use Rattle.std.proofs.lemmas.Bool.{cases_eq, cases_Bool}
use Rattle.std.specs.declared.cmp.Ordering.{Ordering}
use Rattle.std.specs.declared.cmp.Ordering.TheVariants.{Less, Equal, Greater}
use Rattle.std.specs.List.{AllByRecursion, remove}
use Rattle.std.specs.List.Sorted.{IsStrictlySortedBy, IsNonDecreasingBy}
use Rattle.std.specs.Map.{lookup, keys_of, set_value, remove_entry}

equal_is : (t : Ordering) → is_eq t ≡ true → t ≡ Equal
equal_is Less is = (cc)
equal_is Equal is = refl
equal_is Greater is = (cc)

module _ {K : Type 0} (R : K → K → Ordering) (o : IsTotalOrder R) where
  -- a test of equality may be turned
  both_ways : (x y : K) → is_eq (R x y) ≡ is_eq (R y x)
  both_ways x y = ap is_eq (o.antisymm x y) ∙ turned_eq (R y x)
    where
      turned_eq : (t : Ordering) → is_eq (ordering_reverse t) ≡ is_eq t
      turned_eq Less = refl
      turned_eq Equal = refl
      turned_eq Greater = refl

  low_first : (x y k : K) → R x y ≡ Less → (t : Ordering) → R y k ≡ t → ordering_index (R x k) ≤ ordering_index (R y k)
  low_first x y k up Less is = let low : R x k ≡ Less = o.trans x y k up is in rw (low, is) (omega arith)
  low_first x y k up Equal is = let low : R x k ≡ Less = sym (alike_right o y k x is) ∙ up in rw (low, is) (omega arith)
  low_first x y k up Greater is = rw is (top (R x k))
    where
      top : (t : Ordering) → ordering_index t ≤ ordering_index Greater
      top Less = omega arith
      top Equal = omega arith
      top Greater = omega arith

  -- a key that is equal to a later one is above
  above : (x y k : K) → R x y ≡ Less → R k y ≡ Equal → R k x ≡ Greater
  above x y k up here = o.congr k y x here ∙ o.antisymm y x ∙ ap ordering_reverse up

  turned : (x y : K) (t : Ordering) → R x y ≡ t → R y x ≡ ordering_reverse t
  turned x y t is = o.antisymm y x ∙ ap ordering_reverse is

  -- a key above another is not equal to it
  pub apart_above : (x k : K) → R x k ≡ Less → is_eq (R k x) ≡ false
  apart_above x k is = ap is_eq (turned x k Less is)

  pub apart_below : (x k : K) → R x k ≡ Greater → is_eq (R k x) ≡ false
  apart_below x k is = ap is_eq (turned x k Greater is)

module _ {K X : Type 0} (R : K → K → Ordering) (o : IsTotalOrder R) where
  abbrev pub finds : K → List (K × X) → Option X
  finds k es = lookup (λ q. is_eq (R k q)) es

  abbrev pub Rises : List (K × X) → Type 0
  Rises es = IsStrictlySortedBy R (keys_of es)

  -- what holds of each key holds of one
  one_key : (P : K → Type 0) (es : List (K × X)) (i : ℕ) (d : K × X) → AllByRecursion P (keys_of es) → i < length es → P (get_or es i d).0
  one_key P [] i d all low = absurd (omega (arith, low))
  one_key P (e ∷ es) zero d all low = all.0
  one_key P (e ∷ es) (suc i) d all low = one_key P es i d all.1 (omega (arith, low))

  tail_rises : (e : K × X) (es : List (K × X)) → Rises (e ∷ es) → Rises es
  unfolding IsStrictlySortedBy
  tail_rises e es rises = rises.1

  above_first : (e : K × X) (es : List (K × X)) → Rises (e ∷ es) → AllByRecursion (λ y. R e.0 y ≡ Less) (keys_of es)
  unfolding IsStrictlySortedBy
  above_first e es rises = rises.0

  -- earlier keys are below later ones
  pub below : (es : List (K × X)) → Rises es → (i j : ℕ) (d : K × X) → i < j → j < length es → R (get_or es i d).0 (get_or es j d).0 ≡ Less
  below [] rises i j d low high = absurd (omega (arith, high))
  below (e ∷ es) rises zero zero d low high = absurd (omega (arith, low))
  below (e ∷ es) rises zero (suc j) d low high = one_key (λ y. R e.0 y ≡ Less) es j d (above_first e es rises) (omega (arith, high))
  below (e ∷ es) rises (suc i) zero d low high = absurd (omega (arith, low))
  below (e ∷ es) rises (suc i) (suc j) d low high = below es (tail_rises e es rises) i j d (omega (arith, low)) (omega (arith, high))

  -- the comparisons with a key do not fall, as a binary search asks
  pub comparisons_rise : (es : List (K × X)) → Rises es → (k : K) → IsNonDecreasingBy (λ e. ordering_index (R e.0 k)) es
  comparisons_rise es rises k i j d le high = elim (cases_eq i j) [
    | inl same ↦ rw same (omega arith)
    | inr other ↦ low_first R o (get_or es i d).0 (get_or es j d).0 k (below es rises i j d (omega (arith, le, other)) high) (R (get_or es j d).0 k) refl
  ]

  -- the entry of a key is found where it stands
  pub finds_at : (es : List (K × X)) → Rises es → (k : K) (i : ℕ) (d : K × X) → i < length es → R k (get_or es i d).0 ≡ Equal → finds k es ≡ Some (get_or es i d).1
  finds_at [] rises k i d low here = absurd (omega (arith, low))
  finds_at (e ∷ es) rises k zero d low here = ap (λ (t : Ordering). cond (is_eq t) (Some e.1) (finds k es)) here
  finds_at (e ∷ es) rises k (suc i) d low here =
      ap (λ (t : Ordering). cond (is_eq t) (Some e.1) (finds k es)) (above R o e.0 (get_or es i d).0 k (below (e ∷ es) rises 0 (suc i) d (omega arith) low) here)
      ∙ finds_at es (tail_rises e es rises) k i d (omega (arith, low)) here

  -- and where no key is equal to it, nothing is found
  pub finds_none : (es : List (K × X)) (k : K) → ((j : ℕ) (d : K × X) → j < length es → is_eq (R k (get_or es j d).0) ≡ false) → finds k es ≡ None
  finds_none [] k apart = refl
  finds_none (e ∷ es) k apart = ap (λ (t : Bool). cond t (Some e.1) (finds k es)) (apart 0 e (omega arith)) ∙ finds_none es k (λ j d low. apart (suc j) d (omega (arith, low)))

  -- a new value at the place of a key
  pub set_at : (es : List (K × X)) → Rises es → (k : K) (i : ℕ) (w : X) → i < length es → ((d : K × X) → (get_or es i d).0 ≡ k) → set es i (k, w) ≡ set_value (λ q. is_eq (R k q)) es w
  set_at [] rises k i w low here = absurd (omega (arith, low))
  set_at (e ∷ es) rises k zero w low here =
      let same : e.0 ≡ k = here e in
      let tied : R k e.0 ≡ Equal = ap (λ x. R k x) same ∙ tied_itself o k in
      ap (λ x. (x, w) ∷ es) (sym same) ∙ sym (ap (λ (t : Ordering). cond (is_eq t) ((e.0, w) ∷ es) (e ∷ set_value (λ q. is_eq (R k q)) es w)) tied)
  set_at (e ∷ es) rises k (suc i) w low here =
      let tied : R k (get_or es i e).0 ≡ Equal = ap (λ x. R k x) (here e) ∙ tied_itself o k in
      let over = above R o e.0 (get_or es i e).0 k (below (e ∷ es) rises 0 (suc i) e (omega arith) low) tied in
      ap (λ l. e ∷ l) (set_at es (tail_rises e es rises) k i w (omega (arith, low)) here)
      ∙ sym (ap (λ (t : Ordering). cond (is_eq t) ((e.0, w) ∷ es) (e ∷ set_value (λ q. is_eq (R k q)) es w)) over)

  -- the list without the entry of a key
  pub remove_at : (es : List (K × X)) → Rises es → (k : K) (i : ℕ) → i < length es → ((d : K × X) → (get_or es i d).0 ≡ k) → remove es i ≡ remove_entry (λ q. is_eq (R k q)) es
  remove_at [] rises k i low here = absurd (omega (arith, low))
  remove_at (e ∷ es) rises k zero low here =
      let tied : R k e.0 ≡ Equal = ap (λ x. R k x) (here e) ∙ tied_itself o k in
      sym (ap (λ (t : Ordering). cond (is_eq t) es (e ∷ remove_entry (λ q. is_eq (R k q)) es)) tied)
  remove_at (e ∷ es) rises k (suc i) low here =
      let tied : R k (get_or es i e).0 ≡ Equal = ap (λ x. R k x) (here e) ∙ tied_itself o k in
      let over = above R o e.0 (get_or es i e).0 k (below (e ∷ es) rises 0 (suc i) e (omega arith) low) tied in
      ap (λ l. e ∷ l) (remove_at es (tail_rises e es rises) k i (omega (arith, low)) here)
      ∙ sym (ap (λ (t : Ordering). cond (is_eq t) es (e ∷ remove_entry (λ q. is_eq (R k q)) es)) over)

  all_push : (P : K → Type 0) (es : List (K × X)) (k : K) (w : X) → AllByRecursion P (keys_of es) → P k → AllByRecursion P (keys_of (es ++ (k, w) ∷ []))
  all_push P [] k w all last = (last, tt)
  all_push P (e ∷ es) k w all last = (all.0, all_push P es k w all.1 last)

  pub rises_push : (es : List (K × X)) (k : K) (w : X) → Rises es → ((j : ℕ) (d : K × X) → j < length es → R (get_or es j d).0 k ≡ Less) → Rises (es ++ (k, w) ∷ [])
  unfolding IsStrictlySortedBy
  rises_push [] k w rises under = (tt, tt)
  rises_push (e ∷ es) k w rises under =
      let first = all_push (λ y. R e.0 y ≡ Less) es k w (above_first e es rises) (under 0 e (omega arith)) in
      let rest = rises_push es k w (tail_rises e es rises) (λ j d low. under (suc j) d (omega (arith, low))) in
      (first, rest)

  all_removed : (P : K → Type 0) (es : List (K × X)) (i : ℕ) → AllByRecursion P (keys_of es) → AllByRecursion P (keys_of (remove es i))
  all_removed P [] zero all = all
  all_removed P [] (suc i) all = all
  all_removed P (e ∷ es) zero all = all.1
  all_removed P (e ∷ es) (suc i) all = (all.0, all_removed P es i all.1)

  pub rises_remove : (es : List (K × X)) (i : ℕ) → Rises es → Rises (remove es i)
  unfolding IsStrictlySortedBy
  rises_remove [] zero rises = rises
  rises_remove [] (suc i) rises = rises
  rises_remove (e ∷ es) zero rises = tail_rises e es rises
  rises_remove (e ∷ es) (suc i) rises =
      let first = all_removed (λ y. R e.0 y ≡ Less) es i (above_first e es rises) in
      let rest = rises_remove es i (tail_rises e es rises) in
      (first, rest)

  -- a key above R o the last one is above R o all
  pub all_under : (es : List (K × X)) → Rises es → (k : K) (last : K × X) → 0 < length es → get_or es (length es - 1) last ≡ last → R last.0 k ≡ Less → (j : ℕ) (d : K × X) → j < length es → R (get_or es j d).0 k ≡ Less
  all_under es rises k last some is up j d low = elim (cases_eq j (length es - 1)) [
    | inl same ↦ ap (λ e. R e.0 k) (get_or_default es j d last low ∙ ap (λ n. get_or es n last) same ∙ is) ∙ up
    | inr other ↦
        let under = below es rises j (length es - 1) d (omega (arith, low, other)) (omega (arith, some)) in
        let there : get_or es (length es - 1) d ≡ last = get_or_default es (length es - 1) d last (omega (arith, some)) ∙ is in
        o.trans (get_or es j d).0 last.0 k (ap (λ e. R (get_or es j d).0 e.0) (sym there) ∙ under) up
  ]

  -- a new entry behind the others
  pub finds_push : (es : List (K × X)) (k : K) (w : X) → ((j : ℕ) (d : K × X) → j < length es → R (get_or es j d).0 k ≡ Less) → (q : K) → finds q (es ++ (k, w) ∷ []) ≡ cond (is_eq (R k q)) (Some w) (finds q es)
  finds_push [] k w under q = ap (λ (t : Bool). cond t (Some w) None) (both_ways R o q k)
  finds_push (e ∷ es) k w under q =
      let more = finds_push es k w (λ j d low. under (suc j) d (omega (arith, low))) q in
      elim (cases_Bool (is_eq (R k q))) [
        | inl same ↦
            let tied : R k q ≡ Equal = equal_is (R k q) same in
            let apart : is_eq (R q e.0) ≡ false = ap is_eq (sym (o.congr k q e.0 tied)) ∙ apart_above R o e.0 k (under 0 e (omega arith)) in
            ap (λ (t : Bool). cond t (Some e.1) (finds q (es ++ (k, w) ∷ []))) apart ∙ more ∙ ap (λ (t : Bool). cond t (Some w) (finds q es)) same ∙ sym (ap (λ (t : Bool). cond t (Some w) (finds q (e ∷ es))) same)
        | inr other ↦
            ap (λ (x : Option X). cond (is_eq (R q e.0)) (Some e.1) x) (more ∙ ap (λ (t : Bool). cond t (Some w) (finds q es)) other) ∙ sym (ap (λ (t : Bool). cond t (Some w) (finds q (e ∷ es))) other)
      ]
