-- What the bytes of a leaf tuple are, field by field.
use Rattle.std.specs.Prelude.{◌≡◌, ℕ, ◌+◌, ◌<◌, ◌≤◌, List, length, slice_index}
use Rattle.spg_page.specs.Numbers.{two_at}
use Rattle.spg_page.specs.Spelling.{padded}

-- the tag, no flag, the size, a row, the two zeros, and zeros behind the rest
pub record HasLeafFields (bytes : List ℕ) : Type 0 where
  pub tag : slice_index bytes 0 ≡ 2
  pub flag : slice_index bytes 1 ≡ 0
  pub size : two_at bytes 2 ≡ length bytes
  pub row : 0 < two_at bytes 6
  pub gap : two_at bytes 14 ≡ 0
  pub high : length bytes ≤ 8156
  pub whole : length bytes ≡ 16 + padded (two_at bytes 12)
  pub zeros : (k : ℕ) → 16 + two_at bytes 12 ≤ k → k < length bytes → slice_index bytes k ≡ 0
