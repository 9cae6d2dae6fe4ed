-- An index has as many leaf tuples as it has entries.
use Rattle.std.proofs.Common.{◌≡◌, ◌≤◌, ◌⊎◌, ◌↔◌, inl, inr, ℕ, suc, List, [], ◌∷◌, length, Option, ◌+◌, refl, sym, ap, ◌∙◌, subst, arith}
use Rattle.spg_base.specs.Row.{RowAt}
use Rattle.spg_opclass.specs.Meaning.{Meaning}
use Rattle.spg_forest.specs.Sheets.{Sheet, Sheets}
use Rattle.spg_forest.specs.Shape.{Represents}
use Rattle.spg_forest.specs.Steps.{HasRow}
use Rattle.spg_forest.specs.Walk.{lives_on, leaves_from}
use Rattle.spg_forest.specs.Counts.{AreDistinct, rows_in}
use Rattle.spg_forest.proofs.Counts.{rows_are_entries}
use Rattle.spg_verify.specs.Counts.{lives_in}
use Rattle.spg_build.specs.declared.entry.Entry.{Entry}
use Rattle.spg_build.specs.Built.{HasIn, HasRowIn, AreRowsOnce}

-- ---- lists of the same rows, each once

-- a list without one of its rows is shorter by one, and each row is this one or is left
record Without (rows : List RowAt) (row : RowAt) : Type 0 where
  rest : List RowAt
  shorter : length rows ≡ suc (length rest)
  left : (r : RowAt) → HasRow rows r → (r ≡ row) ⊎ HasRow rest r

left_first : (x row : RowAt) (rows : List RowAt) → row ≡ x → (r : RowAt) → HasRow (x ∷ rows) r → (r ≡ row) ⊎ HasRow rows r
left_first x row rows same r (inl is) = inl (is ∙ sym same)
left_first x row rows same r (inr h) = inr h

left_behind : (x row : RowAt) (rows rest : List RowAt) → ((r : RowAt) → HasRow rows r → (r ≡ row) ⊎ HasRow rest r) → (r : RowAt) → HasRow (x ∷ rows) r → (r ≡ row) ⊎ HasRow (x ∷ rest) r
left_behind x row rows rest left r (inl is) = inr (inl is)
left_behind x row rows rest left r (inr h) = elim (left r h) [ inl same ↦ inl same | inr more ↦ inr (inr more) ]

without : (rows : List RowAt) (row : RowAt) → HasRow rows row → Without rows row
without [] row h = absurd h
without (x ∷ rows) row (inl is) = record { rest = rows; shorter = refl; left = left_first x row rows is }
without (x ∷ rows) row (inr h) = let w = without rows row h in record { rest = x ∷ w.rest; shorter = ap suc w.shorter; left = left_behind x row rows w.rest w.left }

still_there : (x : RowAt) (xs rest : List RowAt) (r : RowAt) → (HasRow xs x → ⊥) → HasRow xs r → (r ≡ x) ⊎ HasRow rest r → HasRow rest r
still_there x xs rest r none h (inl same) = absurd (none (subst (HasRow xs) same h))
still_there x xs rest r none h (inr more) = more

no_longer : (xs ys : List RowAt) → AreDistinct xs → ((r : RowAt) → HasRow xs r → HasRow ys r) → length xs ≤ length ys
no_longer [] ys distinct into = omega arith
no_longer (x ∷ xs) ys (none, distinct) into =
    let w = without ys x (into x (inl refl)) in
    let rest = no_longer xs w.rest distinct (λ r h. still_there x xs w.rest r none h (w.left r (into r (inr h)))) in
    omega (arith, rest, w.shorter)

-- ---- the rows of entries

module _ {Key : Type 0} where
  abbrev rows_of : List (Entry Key) → List RowAt
  rows_of [] = []
  rows_of (e ∷ es) = e.row ∷ rows_of es

  as_many : (es : List (Entry Key)) → length (rows_of es) ≡ length es
  as_many [] = refl
  as_many (e ∷ es) = ap suc (as_many es)

  in_entries : (es : List (Entry Key)) (row : RowAt) → HasRow (rows_of es) row → HasRowIn es row
  in_entries [] row h = h
  in_entries (e ∷ es) row (inl is) = inl (sym is)
  in_entries (e ∷ es) row (inr h) = inr (in_entries es row h)

  distinct : (es : List (Entry Key)) → AreRowsOnce es → AreDistinct (rows_of es)
  distinct [] once = tt
  distinct (e ∷ es) (none, once) = (λ h. none (in_entries es e.row h), distinct es once)

  -- a row of an entry, with its key
  keyed : (es : List (Entry Key)) (row : RowAt) → HasRow (rows_of es) row → (key : Option Key) × HasIn es row key
  keyed [] row h = absurd h
  keyed (e ∷ es) row (inl is) = (e.key, inl (sym is, refl))
  keyed (e ∷ es) row (inr h) = let (key, there) = keyed es row h in (key, inr there)

  unkeyed : (es : List (Entry Key)) (row : RowAt) (key : Option Key) → HasIn es row key → HasRow (rows_of es) row
  unkeyed [] row key h = h
  unkeyed (e ∷ es) row key (inl (is, same)) = inl (sym is)
  unkeyed (e ∷ es) row key (inr h) = inr (unkeyed es row key h)

-- ---- leaf tuples

lives_counted : (sheets : List Sheet) → lives_in sheets ≡ leaves_from sheets
lives_counted [] = refl
lives_counted (s ∷ sheets) = ap (λ n. lives_on s.tuples + n) (lives_counted sheets)

pub as_many_leaves : {Key Recon Cond : Type 0} (m : Meaning Key Recon Cond) (S : Sheets) (es : List (Entry Key)) → Represents m S (HasIn es) → AreRowsOnce es → length es ≡ lives_in S.sheets
as_many_leaves m S es represents once =
    let (apart, leaves, each) = rows_are_entries m S represents.shape in
    let into : (r : RowAt) → HasRow (rows_in S) r → HasRow (rows_of es) r = λ r h. let (key, entry) = (each r).0 h in unkeyed es r key ((represents.entries r key).0 entry) in
    let back : (r : RowAt) → HasRow (rows_of es) r → HasRow (rows_in S) r = λ r h. let (key, there) = keyed es r h in (each r).1 (key, (represents.entries r key).1 there) in
    let most = no_longer (rows_in S) (rows_of es) apart into in
    let least = no_longer (rows_of es) (rows_in S) (distinct es once) back in
    let same : length (rows_of es) ≡ length (rows_in S) = omega (arith, most, least) in
    sym (as_many es) ∙ same ∙ leaves ∙ sym (lives_counted S.sheets)
