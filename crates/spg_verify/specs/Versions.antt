-- The versions of images.
use Rattle.std.specs.Prelude.{ℕ, ◌==◌, if◌then◌else◌, List, [], ◌∷◌}
use Rattle.std.specs.List.{list_any}

-- the codes of the classes whose images have version 2: ranges, and points in a quad tree, points in a k-d tree and texts with values beside them
abbrev pub second_codes : List ℕ
second_codes = 4 ∷ 17 ∷ 18 ∷ 19 ∷ []

-- the version of the images of the class with this code
abbrev pub version_of : ℕ → ℕ
version_of code = if list_any (λ c. c == code) second_codes then 2 else 1
