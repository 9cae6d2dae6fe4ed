-- A page of tuples in an image.
use Rattle.std.specs.Prelude.{◌≡◌, ℕ, ◌<◌, ◌≤◌, ◌⊎◌, List, slice_index}
use Rattle.spg_page.specs.Numbers.{two_at, four_at}
use Rattle.spg_page.specs.Versions.{HasMark}
use Rattle.spg_page.specs.Spelling.{AreTuple}
use Rattle.spg_page.specs.Layout.{piece_at, IsLaid}

-- The bytes are those of an inner page, kind 2, or a leaf page, kind 3, of an image of this version, of the main tree or
-- of the nulls tree, at this block. The item pointers name pieces that fill the bytes from `upper` to 8,183 exactly once,
-- and each spells a tuple
pub record IsPageAt (version b : ℕ) (page : List ℕ) : Type 0 where
  pub mark : HasMark version page
  pub kind : (slice_index page 6 ≡ 2) ⊎ (slice_index page 6 ≡ 3)
  pub tree : (slice_index page 7 ≡ 0) ⊎ (slice_index page 7 ≡ 1)
  pub block : four_at page 8 ≡ b
  pub zeros : (k : ℕ) → 16 ≤ k → k < 24 → slice_index page k ≡ 0
  pub tail : (k : ℕ) → 8184 ≤ k → slice_index page k ≡ 0
  pub laid : IsLaid page (two_at page 12) (two_at page 14)
  pub tuples : (i : ℕ) → i < two_at page 12 → AreTuple (piece_at page i)
