-- Coordinates as numbers from 0.
use Rattle.std.specs.Prelude.{ℕ, ℤ, pos, ◌+ℤ◌, ◌-ℤ◌, unsigned_abs}

-- how far a coordinate is above the lowest
unfoldable pub raised : ℤ → ℕ
raised z = unsigned_abs (z +ℤ pos 2147483648)

-- the coordinate that is so far above the lowest
unfoldable pub lowered : ℕ → ℤ
lowered n = pos n -ℤ pos 2147483648
