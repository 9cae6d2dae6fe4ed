-- The tuples of a page as they are kept: in any order, with waste between.
use Rattle.std.specs.Prelude.{◌≡◌, ◌≢◌, ℕ, ◌+◌, ◌-◌, ◌*◌, ◌<◌, ◌≤◌, ◌⊎◌, List, length, slice_range}
use Rattle.spg_page.specs.declared.tuple.Tuple.{Tuple}
use Rattle.spg_page.specs.declared.tuple.Tuple.TheVariants.{Placeholder}
use Rattle.spg_page.specs.Spelling.{tag_of, bytes_of, AreTuple}
use Rattle.spg_page.specs.Layout.{begin_at, size_at, piece_at, AreApart}
use Rattle.spg_page.specs.Stored.{used, placeholder_count, tuple_at, tuples_in}

-- the tuples, and how many bytes stand between the item pointers and them
pub record Area : Type 0 where
  pub tuples : List Tuple
  pub gap : ℕ

abbrev pub area_in : List ℕ → ℕ → ℕ → Area
area_in bytes count upper = record { tuples = tuples_in bytes count; gap = upper - 24 - 4 * count }

-- an item pointer leads to the placeholder at the front, or to bytes from upper on
abbrev pub IsPlaced : List ℕ → ℕ → ℕ → Type 0
IsPlaced bytes upper i = ((begin_at bytes i ≡ 0) × (size_at bytes i ≡ 16)) ⊎ ((upper ≤ begin_at bytes i) × (begin_at bytes i + size_at bytes i ≤ 8184))

pub record IsArea (bytes : List ℕ) (count upper placeholders waste : ℕ) : Type 0 where
  pub len : length bytes ≡ 8192
  pub front : slice_range bytes 0 16 ≡ bytes_of Placeholder
  pub pointers : 24 + 4 * count ≤ upper
  pub placed : (i : ℕ) → i < count → IsPlaced bytes upper i
  pub stored : (i : ℕ) → i < count → AreTuple (piece_at bytes i)
  -- no placeholder stands from upper on, and the tuples there do not overlap
  pub others : (i : ℕ) → i < count → upper ≤ begin_at bytes i → tag_of (tuple_at bytes i) ≢ 5
  pub apart : (i j : ℕ) → i < count → j < count → i ≢ j → upper ≤ begin_at bytes i → upper ≤ begin_at bytes j → AreApart (begin_at bytes i) (size_at bytes i) (begin_at bytes j) (size_at bytes j)
  pub empties : placeholders ≡ placeholder_count (tuples_in bytes count)
  -- waste is what is left from upper on
  pub whole : upper + used (tuples_in bytes count) + waste ≡ 8184 + 4 * count + 16 * placeholders
  pub fits : used (tuples_in bytes count) ≤ 8160
