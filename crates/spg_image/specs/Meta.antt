-- The meta page of an image, and what it says.
use Rattle.std.specs.Prelude.{◌≡◌, ℕ, ◌<◌, ◌≤◌, List, length, slice_index}
use Rattle.spg_verify.specs.Versions.{version_of}
use Rattle.spg_verify.specs.Meta.{HasHeadOf, code_in, count_in, clock_in, remembered_in, counter_in}

-- the bytes are those of a meta page that was saved: of the version of its class, and zero but for the header and what the page says
pub record IsMeta (page : List ℕ) : Type 0 where
  pub len : length page ≡ 8192
  pub head : HasHeadOf (version_of (code_in page)) page
  pub more_zeros : (k : ℕ) → 25 ≤ k → k < 28 → slice_index page k ≡ 0
  pub last_zeros : (k : ℕ) → 73 ≤ k → slice_index page k ≡ 0

-- what it says: the class's code; the page count; the clock; the remembered pages, of the main tree a leaf page and
-- inner pages of parity 0, 1 and 2, then the same of the nulls tree, 0 for none; and the rotating counter
pub record Said : Type 0 where
  pub class : ℕ
  pub count : ℕ
  pub clock : ℕ
  pub remembered : List ℕ
  pub counter : ℕ

abbrev pub said_in : List ℕ → Said
said_in page = record { class = code_in page; count = count_in page; clock = clock_in page; remembered = remembered_in page; counter = counter_in page }
