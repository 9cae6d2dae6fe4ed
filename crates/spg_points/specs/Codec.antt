-- Points and coordinates as bytes.
use Rattle.std.specs.Prelude.{ℕ, ℤ, pos, negsuc, Bool, ◌&&◌, List, [], ◌∷◌, ◌++◌, ◌+◌, slice_index}
use Rattle.std.specs.Int.{w32, cast_signed, cast_unsigned, from_le_bytes, to_le_bytes}
use Rattle.spg_base.specs.declared.point.Point.{Point}
use Rattle.spg_base.specs.Points.{is_between}

-- the ends of a coordinate's range, -2^31 and 2^31 - 1
abbrev pub lowest : ℤ
lowest = negsuc 2147483647

abbrev pub highest : ℤ
highest = pos 2147483647

abbrev pub is_coordinate : ℤ → Bool
is_coordinate z = is_between lowest z highest

-- a point whose coordinates are in range
abbrev pub is_point : Point → Bool
is_point p = is_coordinate p.x && is_coordinate p.y

-- a coordinate, as two's complement of 32 bits, the lowest byte first
unfoldable pub bytes_of_coordinate : ℤ → List ℕ
bytes_of_coordinate z = to_le_bytes w32 (cast_unsigned w32 z)

-- the coordinate that stands from an index on, where a byte past the end is 0
unfoldable pub coordinate_at : List ℕ → ℕ → ℤ
coordinate_at bytes at = cast_signed w32 (from_le_bytes w32 (slice_index bytes at ∷ slice_index bytes (at + 1) ∷ slice_index bytes (at + 2) ∷ slice_index bytes (at + 3) ∷ []))

-- a point, x before y
unfoldable pub bytes_of_point : Point → List ℕ
bytes_of_point p = bytes_of_coordinate p.x ++ bytes_of_coordinate p.y

-- the point that bytes stand for
unfoldable pub point_of : List ℕ → Point
point_of bytes = record { x = coordinate_at bytes 0; y = coordinate_at bytes 4 }
