-- In which nodes values are put.
use Rattle.std.specs.Prelude.{◌≡◌, ℕ, ◌<◌, ◌%◌, List, [], ◌∷◌, Option, Some, None, map, length, slice_index, cond, nat_eq}
use Rattle.std.specs.List.{range_with_len}

-- the nodes 0 to 7 in turn, for so many values
abbrev pub turns : ℕ → List ℕ
turns n = map (λ i. i % 8) (range_with_len 0 n)

-- the node in which all are; there are several, or no value, where there is none
abbrev pub IsOnlyNode : List ℕ → Option ℕ → Type 0
IsOnlyNode nodes (Some k) = (0 < length nodes) × ((i : ℕ) → i < length nodes → slice_index nodes i ≡ k)
IsOnlyNode nodes None = 0 < length nodes → (j : ℕ) × (j < length nodes) × (slice_index nodes j ≡ slice_index nodes 0 → ⊥)

-- node k, where all others are it
abbrev pub all_in : ℕ → List ℕ → Option ℕ
all_in k [] = Some k
all_in k (n ∷ ns) = cond (nat_eq n k) (all_in k ns) None

-- the node in which all are, where there is one
abbrev pub only_of : List ℕ → Option ℕ
only_of [] = None
only_of (n ∷ ns) = all_in n ns
