-- A list with another item at each marked offset.
use Rattle.std.specs.Prelude.{Bool, if◌then◌else◌, List, [], ◌∷◌}

-- the marks are those of the indexes
abbrev pub marked_as : {T : Type 0} → T → List Bool → List T → List T
marked_as x [] ts = ts
marked_as x (m ∷ ms) [] = []
marked_as x (m ∷ ms) (t ∷ ts) = (if m then x else t) ∷ marked_as x ms ts

-- the marks are those of the offsets: the first, of offset 0, means nothing
abbrev pub blanked : {T : Type 0} → T → List Bool → List T → List T
blanked x [] ts = ts
blanked x (m ∷ ms) ts = marked_as x ms ts
