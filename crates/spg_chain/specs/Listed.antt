-- A list of leaves added to a page, as a chain.
use Rattle.std.specs.Prelude.{ℕ, suc, ◌≤◌, List, [], ◌∷◌, length}
use Rattle.spg_forest.specs.View.{Leaf}
use Rattle.spg_forest.specs.Tuples.{Tuple}
use Rattle.spg_forest.specs.Pages.{all_live}
use Rattle.spg_forest.specs.Sheets.{free_place, weight}
use Rattle.spg_forest.specs.Edits.{added}
use Rattle.spg_page.specs.Changes.{room_of}
use Rattle.spg_page.specs.Reads.{leaf_in}

-- leaves added one after another, each behind the one before: the first behind that at an offset, or as a chain of its own where it is 0
abbrev pub chained : List Tuple → ℕ → List Leaf → List Tuple
chained ts last [] = ts
chained ts last (l ∷ ls) = chained (added ts last (suc (free_place ts)) l) (suc (free_place ts)) ls

-- all leaves have room on the page
pub record HaveRoom (ts : List Tuple) (ls : List Leaf) : Type 0 where
  pub fits : weight ts ≤ 8160
  pub room : weight (all_live ls) ≤ room_of ts (length ls)

-- the leaves of the tuples
abbrev pub leaves_in : List Tuple → List Leaf
leaves_in [] = []
leaves_in (t ∷ ts) = leaf_in t ∷ leaves_in ts
