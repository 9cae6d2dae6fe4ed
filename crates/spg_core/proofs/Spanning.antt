-- The vacuums that a state keeps, as a list, and where one is sought.
use Rattle.std.proofs.Common.{◌≡◌, ◌≤◌, ◌<◌, ◌-◌, ⊎_elim, ℕ, zero, suc, cond, List, [], ◌∷◌, ◌++◌, Option, Some, None, Result, Ok, Err, length, map, reverse, get_or, set, refl, sym, ap, ◌∙◌, arith}
use Rattle.std.proofs.lemmas.Bool.{eq-eqb, ne_eqb, cases_lt}
use Rattle.std.proofs.lemmas.List.{reverse-append, length-reverse, length-map, get_or-map, get_or-reverse}
use Rattle.std.specs.List.Sorted.{IsSearchInRange, IsBinarySearchResult, IsNonDecreasingBy}
use Rattle.std.specs.Ordering.{nat_cmp, ordering_index}
use Rattle.std.proofs.lemmas.Cmp.{ranked}
use Rattle.std.proofs.lemmas.List.Sorted.{IsNonDecreasingBy-from_default}
use Rattle.std.proofs.lemmas.Bool.Decides.{nat_tests}
use Rattle.spg_rows.specs.Vacuums.{AreBefore, newest_ends, find_end}
use Rattle.spg_core.specs.declared.vacuums.VacuumSpan.{VacuumSpan}
use Rattle.spg_core.specs.Spans.{span_of, spans_of, IsDescending}

-- ---- a list that descends

abbrev Span : Type 0
Span = ℕ × Option ℕ

below_then : (n : ℕ) (list : List Span) → AreBefore n list → IsDescending list
below_then n [] b = tt
below_then n (v ∷ older) b = b.1

below_at : (n : ℕ) (list : List Span) → AreBefore n list → (k : ℕ) (d : Span) → k < length list → (get_or list k d).0 < n
below_at n [] b k d h = absurd (omega arith)
below_at n (v ∷ older) b zero d h = b.0
below_at n (v ∷ older) b (suc k) d h = let a = below_at v.0 older b.1 k d (omega arith) in let e = b.0 in omega arith

descends_at : (list : List Span) → IsDescending list → (i j : ℕ) (d : Span) → i < j → j < length list → (get_or list j d).0 < (get_or list i d).0
descends_at [] D i j d low h = absurd (omega arith)
descends_at (v ∷ older) D zero zero d low h = absurd (omega arith)
descends_at (v ∷ older) D zero (suc j) d low h = below_at v.0 older D j d (omega arith)
descends_at (v ∷ older) D (suc i) zero d low h = absurd (omega arith)
descends_at (v ∷ older) D (suc i) (suc j) d low h = descends_at older (below_then v.0 older D) i j d (omega arith) (omega arith)

find_at : (list : List Span) → IsDescending list → (at k : ℕ) (d : Span) → k < length list → (get_or list k d).0 ≡ at → find_end at list ≡ (get_or list k d).1
find_at [] D at k d h e = absurd (omega arith)
find_at (v ∷ older) D at zero d h e = ap (λ b. cond b v.1 (find_end at older)) (eq-eqb v.0 at e)
find_at (v ∷ older) D at (suc k) d h e =
    let low = below_at v.0 older D k d (omega arith) in
    ap (λ b. cond b v.1 (find_end at older)) (ne_eqb v.0 at (λ q. omega arith)) ∙ find_at older (below_then v.0 older D) at k d (omega arith) e

find_none : (list : List Span) (at : ℕ) (d : Span) → ((k : ℕ) → k < length list → (get_or list k d).0 ≡ at → ⊥) → find_end at list ≡ None
find_none [] at d none = refl
find_none (v ∷ older) at d none = ap (λ b. cond b v.1 (find_end at older)) (ne_eqb v.0 at (λ q. none 0 (omega arith) q)) ∙ find_none older at d (λ k h e. none (suc k) (omega arith) e)

-- the newest ends
pub ends_descend : (at : ℕ) (list : List Span) → IsDescending list → IsDescending (newest_ends at list)
ends_descend at [] D = D
ends_descend at (v ∷ older) D = D

-- ---- the items, the newest last

module _ (items : List VacuumSpan) (D : IsDescending (spans_of items)) where
  as_long : length (map span_of items) ≡ length items
  as_long = length-map items span_of

  spans_long : length (spans_of items) ≡ length items
  spans_long = length-reverse (map span_of items) ∙ as_long

  span_there : (i : ℕ) (d : VacuumSpan) → i < length items → get_or (spans_of items) (length items - 1 - i) (span_of d) ≡ span_of (get_or items i d)
  span_there i d h =
      get_or-reverse (map span_of items) (length items - 1 - i) (span_of d) (omega (arith, as_long, h))
      ∙ ap (λ k. get_or (map span_of items) k (span_of d)) (omega (arith, as_long, h))
      ∙ get_or-map span_of items i d (span_of d) h

  rises : (i j : ℕ) (d : VacuumSpan) → i < j → j < length items → (get_or items i d).opened < (get_or items j d).opened
  rises i j d low h =
      let a = descends_at (spans_of items) D (length items - 1 - j) (length items - 1 - i) (span_of d) (omega arith) (omega (arith, spans_long, h, low)) in
      let b : (get_or (spans_of items) (length items - 1 - i) (span_of d)).0 ≡ (get_or items i d).opened = ap (λ (s : Span). s.0) (span_there i d (omega arith)) in
      let c : (get_or (spans_of items) (length items - 1 - j) (span_of d)).0 ≡ (get_or items j d).opened = ap (λ (s : Span). s.0) (span_there j d h) in
      omega (arith, a, b, c)

  module _ (key : ℕ) where
    pub found : (i : ℕ) (d : VacuumSpan) → i < length items → (get_or items i d).opened ≡ key → find_end key (spans_of items) ≡ (get_or items i d).ended
    found i d h e =
        find_at (spans_of items) D key (length items - 1 - i) (span_of d) (omega (arith, spans_long, h)) (ap (λ (s : Span). s.0) (span_there i d h) ∙ e)
        ∙ ap (λ (s : Span). s.1) (span_there i d h)

    -- where it would stand none opened there
    absent : (d : VacuumSpan) → ((j : ℕ) → j < length items → (get_or items j d).opened ≡ key → ⊥) → find_end key (spans_of items) ≡ None
    absent d none = find_none (spans_of items) key (span_of d) (λ k h e.
        let i : ℕ = length items - 1 - k in
        let there : i < length items = omega (arith, spans_long, h) in
        let back : length items - 1 - i ≡ k = omega (arith, spans_long, h) in
        none i there (sym (ap (λ (s : Span). s.0) (span_there i d there)) ∙ ap (λ n. (get_or (spans_of items) n (span_of d)).0) back ∙ e))

    some_span : VacuumSpan
    some_span = record { opened = 0; ended = None }

    compared : IsNonDecreasingBy (λ s. ordering_index (nat_cmp s.opened key)) items
    compared = IsNonDecreasingBy-from_default (λ s. ordering_index (nat_cmp s.opened key)) items some_span (λ i j le in_range.
        let keys_rise : (get_or items i some_span).opened ≤ (get_or items j some_span).opened = ⊎_elim (λ low. let a = rises i j some_span low in_range in omega arith) (λ high. let e : i ≡ j = omega arith in let f = ap (λ k. (get_or items k some_span).opened) e in omega arith) (cases_lt i j) in
        grind (arith, nat_tests))

    -- the end of the vacuum that a search found, or that there is none
    abbrev pub IsEndOf : Result ℕ ℕ → Type 0
    IsEndOf (Ok at) = (d : VacuumSpan) → find_end key (spans_of items) ≡ (get_or items at d).ended
    IsEndOf (Err at) = find_end key (spans_of items) ≡ None

    -- what a search by halving finds
    pub sought : (r : Result ℕ ℕ) → IsSearchInRange r (length items) → IsBinarySearchResult (λ s. nat_cmp s.opened key) items r → IsEndOf r
    sought (Ok at) in_range equal = λ d. found at d in_range (ranked _ key _ (sym (equal d)))
    sought (Err at) in_range parted = absent some_span (λ j h e. ⊎_elim
        (λ low. let a : (get_or items j some_span).opened < key = ranked _ key _ (sym ((parted compared).0 j some_span (omega arith) low)) in omega arith)
        (λ high. let a : key < (get_or items j some_span).opened = ranked _ key _ (sym ((parted compared).1 j some_span high h)) in omega arith)
        (cases_lt j at))

module _ (at : ℕ) where
  abbrev ended : VacuumSpan → VacuumSpan
  ended s = record { opened = s.opened; ended = Some at }

  newest_front : (front rest : List Span) → (front ≡ [] → ⊥) → newest_ends at (front ++ rest) ≡ newest_ends at front ++ rest
  newest_front [] rest n = absurd (n refl)
  newest_front (v ∷ front) rest n = refl

  not_empty : (s : Span) (list : List Span) → reverse (s ∷ list) ≡ [] → ⊥
  not_empty s list e = let a = ap (λ (l : List Span). length l) e in let b = length-reverse (s ∷ list) in omega arith

  pub ends_set : (y : VacuumSpan) (xs : List VacuumSpan) (d : VacuumSpan) → spans_of (set (y ∷ xs) (length xs) (ended (get_or (y ∷ xs) (length xs) d))) ≡ newest_ends at (spans_of (y ∷ xs))
  ends_set y [] d = refl
  ends_set y (z ∷ zs) d =
      reverse-append (span_of y ∷ []) (map span_of (set (z ∷ zs) (length zs) (ended (get_or (z ∷ zs) (length zs) d))))
      ∙ ap (λ (l : List Span). l ++ span_of y ∷ []) (ends_set z zs d)
      ∙ sym (newest_front (spans_of (z ∷ zs)) (span_of y ∷ []) (not_empty (span_of z) (map span_of zs)))
      ∙ sym (ap (newest_ends at) (reverse-append (span_of y ∷ []) (map span_of (z ∷ zs))))

  pub ends_last : (items : List VacuumSpan) (n : ℕ) (span : VacuumSpan) → length items ≡ n → 0 < n → span ≡ get_or items (n - 1) span → spans_of (set items (n - 1) (ended span)) ≡ newest_ends at (spans_of items)
  ends_last [] n span e pos is = absurd (omega arith)
  ends_last (y ∷ xs) n span e pos is =
      let k : n - 1 ≡ length xs = omega arith in
      ap (λ i. spans_of (set (y ∷ xs) i (ended span))) k
      ∙ ap (λ (s : VacuumSpan). spans_of (set (y ∷ xs) (length xs) (ended s))) (is ∙ ap (λ i. get_or (y ∷ xs) i span) k)
      ∙ ends_set y xs span

  pub ends_none : (items : List VacuumSpan) → length items ≡ 0 → spans_of items ≡ newest_ends at (spans_of items)
  ends_none [] e = refl
  ends_none (y ∷ xs) e = absurd (omega arith)
