-- How many tuples of each kind pages have.
use Rattle.std.specs.Prelude.{ℕ, ◌+◌, List, [], ◌∷◌}
use Rattle.spg_forest.specs.Tuples.{Tuple, Inner, Redirect, Dead}
use Rattle.spg_forest.specs.Sheets.{Sheet}

-- 1 for a tuple of the kind, else 0; `is_live` and `gap` are those of leaf tuples and placeholders

abbrev pub is_inner : Tuple → ℕ
is_inner (Inner w ns) = 1
is_inner _ = 0

abbrev pub is_redirect : Tuple → ℕ
is_redirect (Redirect to stamp) = 1
is_redirect _ = 0

abbrev pub is_dead : Tuple → ℕ
is_dead Dead = 1
is_dead _ = 0

-- the sum over the tuples of a page, and over those of all pages

abbrev pub count_on : (Tuple → ℕ) → List Tuple → ℕ
count_on f [] = 0
count_on f (t ∷ ts) = f t + count_on f ts

abbrev pub count_in : (Tuple → ℕ) → List Sheet → ℕ
count_in f [] = 0
count_in f (s ∷ ss) = count_on f s.tuples + count_in f ss
