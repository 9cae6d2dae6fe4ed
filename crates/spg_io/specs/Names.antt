-- The names of images.
use Rattle.std.specs.Prelude.{ℕ, ◌&&◌, ◌||◌, ◌==◌, nat_le, Bool, false, List, [], ◌∷◌, length}
use Rattle.std.specs.List.{list_all}

abbrev pub is_within : ℕ → ℕ → ℕ → Bool
is_within low high c = nat_le low c && nat_le c high

-- `a` to `z`, `0` to `9` and `_`
abbrev pub is_first_byte : ℕ → Bool
is_first_byte c = is_within 97 122 c || is_within 48 57 c || c == 95

-- these, `-` and `.`
abbrev pub is_name_byte : ℕ → Bool
is_name_byte c = is_first_byte c || c == 45 || c == 46

-- 1 to 64 bytes, of which the first is neither `-` nor `.`; so a name holds no `/`, and is neither `.` nor `..`
abbrev pub is_name : List ℕ → Bool
is_name [] = false
is_name (c ∷ cs) = is_first_byte c && list_all is_name_byte cs && nat_le (length cs) 63
