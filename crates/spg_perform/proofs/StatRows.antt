-- Two lists of rows, each without a row twice, that have the same rows are of one length.
use Rattle.std.proofs.Common.{◌≡◌, ◌≤◌, ◌⊎◌, inl, inr, zero, suc, List, [], ◌∷◌, length, Contains, refl, sym, ap, ◌∙◌, subst, arith}
use Rattle.spg_base.specs.Row.{RowAt}
use Rattle.spg_forest.specs.Steps.{HasRow}
use Rattle.spg_forest.specs.Counts.{AreDistinct}
use Rattle.spg_rows.specs.Count.{IsOnce}

-- ---- both ways to say that a list has a row

pub has_from : (rows : List RowAt) (r : RowAt) → Contains rows r → HasRow rows r
has_from [] r (k, within, is) = absurd (omega (arith, within))
has_from (x ∷ rows) r (zero, within, is) = inl (sym is)
has_from (x ∷ rows) r (suc k, within, is) = inr (has_from rows r (k, omega (arith, within), is))

pub contains_from : (rows : List RowAt) (r : RowAt) → HasRow rows r → Contains rows r
contains_from [] r h = absurd h
contains_from (x ∷ rows) r (inl is) = (0, omega arith, sym is)
contains_from (x ∷ rows) r (inr h) = let (k, within, is) = contains_from rows r h in (suc k, omega (arith, within), is)

pub distinct_from : (rows : List RowAt) → IsOnce rows → AreDistinct rows
distinct_from [] once = tt
distinct_from (x ∷ rows) (none, once) = (λ h. none (contains_from rows x h), distinct_from rows once)

-- ---- a list without one of its rows

-- it is shorter by one, and each row is this one or is left
record Without (rows : List RowAt) (row : RowAt) : Type 0 where
  rest : List RowAt
  shorter : length rows ≡ suc (length rest)
  left : (r : RowAt) → HasRow rows r → (r ≡ row) ⊎ HasRow rest r

left_behind : (x row : RowAt) (rows rest : List RowAt) → ((r : RowAt) → HasRow rows r → (r ≡ row) ⊎ HasRow rest r) → (r : RowAt) → HasRow (x ∷ rows) r → (r ≡ row) ⊎ HasRow (x ∷ rest) r
left_behind x row rows rest left r (inl is) = inr (inl is)
left_behind x row rows rest left r (inr h) = elim (left r h) [
  | inl same ↦ inl same
  | inr more ↦ inr (inr more)
]

left_first : (x row : RowAt) (rows : List RowAt) → row ≡ x → (r : RowAt) → HasRow (x ∷ rows) r → (r ≡ row) ⊎ HasRow rows r
left_first x row rows same r (inl is) = inl (is ∙ sym same)
left_first x row rows same r (inr h) = inr h

without : (rows : List RowAt) (row : RowAt) → HasRow rows row → Without rows row
without [] row h = absurd h
without (x ∷ rows) row (inl is) = record { rest = rows; shorter = refl; left = left_first x row rows is }
without (x ∷ rows) row (inr h) = let w = without rows row h in record { rest = x ∷ w.rest; shorter = ap suc w.shorter; left = left_behind x row rows w.rest w.left }

-- ---- their lengths

still_there : (x : RowAt) (xs rest : List RowAt) (r : RowAt) → (HasRow xs x → ⊥) → HasRow xs r → (r ≡ x) ⊎ HasRow rest r → HasRow rest r
still_there x xs rest r none h (inl same) = absurd (none (subst (HasRow xs) same h))
still_there x xs rest r none h (inr more) = more

no_longer : (xs ys : List RowAt) → AreDistinct xs → ((r : RowAt) → HasRow xs r → HasRow ys r) → length xs ≤ length ys
no_longer [] ys distinct into = omega arith
no_longer (x ∷ xs) ys (none, distinct) into =
    let w = without ys x (into x (inl refl)) in
    let rest = no_longer xs w.rest distinct (λ r h. still_there x xs w.rest r none h (w.left r (into r (inr h)))) in
    omega (arith, rest, w.shorter)

pub as_long : (xs ys : List RowAt) → AreDistinct xs → AreDistinct ys → ((r : RowAt) → HasRow xs r → HasRow ys r) → ((r : RowAt) → HasRow ys r → HasRow xs r) → length xs ≡ length ys
as_long xs ys distinct distinct2 into back = omega (arith, no_longer xs ys distinct into, no_longer ys xs distinct2 back)
