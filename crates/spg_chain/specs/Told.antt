-- The rows and places that a sweep tells.
use Rattle.std.specs.Prelude.{◌≡◌, ℕ, Bool, false, nat_le, List, [], ◌∷◌, cond}
use Rattle.spg_forest.specs.Sheets.{Sheet, with_tuples}
use Rattle.spg_base.specs.Row.{RowAt}
use Rattle.spg_forest.specs.Tuples.{Tuple, Inner, Live, Dead, Redirect, Placeholder}

-- a leaf tuple whose row is a target
abbrev pub is_target : (RowAt → Bool) → Tuple → Bool
is_target test (Live l n) = test l.row
is_target test (Inner w ns) = false
is_target test Dead = false
is_target test (Redirect y u) = false
is_target test Placeholder = false

-- a redirect of this stamp or a later one
abbrev pub is_late : ℕ → Tuple → Bool
is_late c (Redirect y u) = nat_le c u
is_late c (Inner w ns) = false
is_late c (Live l n) = false
is_late c Dead = false
is_late c Placeholder = false

-- the tuples without the targets: later ones move down
abbrev pub without_targets : (RowAt → Bool) → List Tuple → List Tuple
without_targets test [] = []
without_targets test (t ∷ ts) = cond (is_target test t) (without_targets test ts) (t ∷ without_targets test ts)

-- the page q is p without the targets
abbrev pub IsWithoutTargets : (RowAt → Bool) → Sheet → Sheet → Type 0
IsWithoutTargets test p q = q ≡ with_tuples p (without_targets test p.tuples)
