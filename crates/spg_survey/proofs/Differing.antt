-- Lists of rows that differ, and rows in ascending order.
use Rattle.std.proofs.Common.{◌≡◌, ℕ, zero, suc, ◌+◌, ◌<◌, List, [], ◌∷◌, ◌++◌, Bool, true, false, ◌||◌, cond, length, get_or, refl, sym, ap, ◌∙◌, subst, arith}
use Rattle.std.specs.Ordering.{nat_cmp}
use Rattle.std.specs.declared.cmp.Ordering.TheVariants.{Less}
use Rattle.std.specs.Cmp.{IsTotalOrder, both_ways}
use Rattle.std.specs.List.{AllByRecursion, IsDistinct, list_any}
use Rattle.std.specs.List.Sorted.{IsPermutation, IsStrictlySortedBy}
use Rattle.std.proofs.lemmas.Cmp.{nat_cmp_total, on_total, then_total}
use Rattle.std.proofs.lemmas.List.Folds.{list_any-append}
use Rattle.std.proofs.lemmas.List.Sorted.{IsPermutation-sym}
use Rattle.std.proofs.lemmas.Map.Keys.{IsDistinct-head, IsDistinct-tail, IsDistinct-cons, IsDistinct-from_sorted, IsDistinct-IsPermutation}
use Rattle.spg_base.specs.Row.{RowAt, row_cmp, same_row}
use Rattle.spg_survey.specs.Earlier.{among}
use Rattle.spg_survey.proofs.Earlier.{same_refl, same_equal}

row_total : IsTotalOrder row_cmp
row_total = then_total (on_total (λ (r : RowAt). r.block) nat_cmp_total) (on_total (λ (r : RowAt). r.offset) nat_cmp_total)

flips : (x y : RowAt) → same_row x y ≡ same_row y x
flips x y = both_ways (same_row x y) (same_row y x)
    (λ h. subst (λ z. same_row z x ≡ true) (same_equal x y h) (same_refl x))
    (λ h. subst (λ z. same_row z y ≡ true) (same_equal y x h) (same_refl y))

-- ---- a row more

all_front : (P : RowAt → Type 0) (xs : List RowAt) (r : RowAt) → AllByRecursion P (xs ++ r ∷ []) → AllByRecursion P xs × P r
all_front P [] r h = (tt, h.0)
all_front P (x ∷ xs) r h = let (a, b) = all_front P xs r h.1 in ((h.0, a), b)

pub distinct_front : (xs : List RowAt) (r : RowAt) → IsDistinct same_row (xs ++ r ∷ []) → IsDistinct same_row xs × (among xs r ≡ false)
unfolding IsDistinct
distinct_front [] r h = (tt, refl)
distinct_front (x ∷ xs) r h =
    let (apart, none) = distinct_front xs r h.1 in
    let (all, last) = all_front (λ y. same_row x y ≡ false) xs r h.0 in
    ((all, apart), (rw (last, none) refl))

pub among_more : (xs : List RowAt) (r q : RowAt) → among (xs ++ r ∷ []) q ≡ cond (same_row r q) true (among xs q)
among_more xs r q = list_any-append (λ x. same_row x q) xs (r ∷ []) ∙ swapped (among xs q) (same_row r q)
  where
    swapped : (a b : Bool) → (a || (b || false)) ≡ cond b true a
    swapped true true = refl
    swapped true false = refl
    swapped false true = refl
    swapped false false = refl

-- ---- rows that ascend

up : (x y : RowAt) → row_cmp x y ≡ Less → (zs : List RowAt) → AllByRecursion (λ z. row_cmp y z ≡ Less) zs → AllByRecursion (λ z. row_cmp x z ≡ Less) zs
up x y e [] h = tt
up x y e (z ∷ zs) h = (row_total.trans x y z e h.0, up x y e zs h.1)

-- each row is below the next
abbrev pub Rise : List RowAt → ℕ → Type 0
Rise xs n = (i j : ℕ) (d : RowAt) → j ≡ i + 1 → j < n → row_cmp (get_or xs i d) (get_or xs j d) ≡ Less

rise_tail : (x : RowAt) (xs : List RowAt) → Rise (x ∷ xs) (length (x ∷ xs)) → Rise xs (length xs)
rise_tail x xs h i j d e l = h (suc i) (suc j) d (omega arith) (omega arith)

pub strict : (xs : List RowAt) → Rise xs (length xs) → IsStrictlySortedBy row_cmp xs
unfolding IsStrictlySortedBy
strict [] h = tt
strict (x ∷ []) h = (tt, tt)
strict (x ∷ (y ∷ ys)) h =
    let rest = strict (y ∷ ys) (rise_tail x (y ∷ ys) h) in
    let first : row_cmp x y ≡ Less = h zero (suc zero) x (omega arith) (omega arith) in
    ((first, up x y first ys rest.0), rest)

-- rows of which a permutation ascends differ
pub apart_of : (xs ys : List RowAt) → IsPermutation xs ys → IsStrictlySortedBy row_cmp ys → IsDistinct same_row xs
apart_of xs ys p s = IsDistinct-IsPermutation same_row flips ys xs (IsPermutation-sym xs ys p) (IsDistinct-from_sorted row_cmp ys s)
