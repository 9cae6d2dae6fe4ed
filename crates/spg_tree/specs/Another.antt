-- A block among those that a section touches.
use Rattle.std.specs.Prelude.{ℕ, ◌==◌, ◌||◌, nat_le, if◌then◌else◌, List, [], ◌∷◌}

-- a block that was there before, where it is not the other one
abbrev pub another : ℕ → ℕ → ℕ → List ℕ
another b other end = if b == other || nat_le end b then [] else b ∷ []
