-- The vacuums that a state keeps, as a list: the newest first, each with the positions of its open and of its end.
use Rattle.std.specs.Prelude.{ℕ, List, [], ◌∷◌, map, reverse, Option, ⊤}
use Rattle.spg_rows.specs.Vacuums.{AreBefore}
use Rattle.spg_core.specs.declared.vacuums.VacuumSpan.{VacuumSpan}

abbrev pub span_of : VacuumSpan → ℕ × Option ℕ
span_of s = (s.opened, s.ended)

abbrev pub spans_of : List VacuumSpan → List (ℕ × Option ℕ)
spans_of spans = reverse (map span_of spans)

-- each opened before those in front of it
abbrev pub IsDescending : List (ℕ × Option ℕ) → Type 0
IsDescending [] = ⊤
IsDescending (v ∷ older) = AreBefore v.0 older
