-- How each page of an image begins: the letters SPGX, and the version of the image in the next two bytes.
use Rattle.std.specs.Prelude.{◌≡◌, ℕ, ◌<◌, List, [], ◌∷◌, slice_index}
use Rattle.spg_page.specs.Numbers.{two_at}

abbrev pub letters : List ℕ
letters = 83 ∷ 80 ∷ 71 ∷ 88 ∷ []

abbrev pub version_in : List ℕ → ℕ
version_in page = two_at page 4

-- bytes 0 to 5 are those of a page of this version
pub record HasMark (version : ℕ) (page : List ℕ) : Type 0 where
  pub letters_are : (k : ℕ) → k < 4 → slice_index page k ≡ slice_index letters k
  pub version_is : version_in page ≡ version
