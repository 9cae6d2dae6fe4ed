-- A small index whose only row a vacuum sweeps, and the tuples of a small page.
use Rattle.std.specs.Prelude.{◌≡◌, ◌≤◌, ◌&&◌, nat_eq, Bool, true, false, List, [], ◌∷◌, map, Some}
use Rattle.spg_base.specs.Row.{RowAt}
use Rattle.spg_opclass.specs.Meaning.{Meaning}
use Rattle.spg_opclass.specs.Laws.{leaf_size}
use Rattle.spg_forest.specs.View.{Leaf}
use Rattle.spg_forest.specs.Tuples.{Tuple, Live, Redirect, Placeholder}
use Rattle.spg_forest.specs.Pages.{place}
use Rattle.spg_forest.specs.Section.{Takes}
use Rattle.spg_forest.specs.Steps.{HasRow}
use Rattle.spg_forest.specs.Puts.{spreads}
use Rattle.spg_forest.specs.Examples.{new_sheets, one_sheets}
use Rattle.spg_cover.specs.Vacuum.{VacuumHolds, Of}
use Rattle.spg_cover.specs.Swept.{found_on, aged, trimmed}

-- whether a row is this one
abbrev pub is_row : RowAt → RowAt → Bool
is_row a row = nat_eq row.block a.block && nat_eq row.offset a.offset

-- a vacuum opens where the one row of the main root is a target. Block 1 is handled: the row is taken away, and no target is left to cover
abbrev pub OneSwept : {Key Recon Cond : Type 0} → Meaning Key Recon Cond → Type 0
OneSwept {Key} m = (new : Leaf) (key : Key) → m.rebuild m.start new.rest ≡ Some key → m.is_rest new.rest ≡ true → leaf_size new.rest ≤ 8156 →
    VacuumHolds m (one_sheets new) 0 1 [] [] (Of (is_row new.row)) × (is_row new.row new.row ≡ true) × Takes m (one_sheets new) new_sheets (1 ∷ []) (spreads 0) 0 (HasRow (new.row ∷ [])) × VacuumHolds m new_sheets 0 2 [] [] (Of (λ row. false))

-- redirects of the stamps 3 and 5 before a leaf
abbrev pub two_redirects : Leaf → List Tuple
two_redirects l = Redirect (place 4 1) 3 ∷ Live l 0 ∷ Redirect (place 5 2) 5 ∷ []

-- to a vacuum of stamp 4 the later one leads; a horizon of 4 ages the earlier one, and one of 6 both, where the second goes with the end
abbrev pub RedirectsAge : Type 0
RedirectsAge = (l : Leaf) → (found_on 4 (two_redirects l) ≡ place 5 2 ∷ []) × (trimmed (map (aged 4) (two_redirects l)) ≡ Placeholder ∷ Live l 0 ∷ Redirect (place 5 2) 5 ∷ []) × (trimmed (map (aged 6) (two_redirects l)) ≡ Placeholder ∷ Live l 0 ∷ [])
