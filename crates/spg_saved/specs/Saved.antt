-- What an image that was saved is to who reads it: no clause fails.
use Rattle.std.specs.Prelude.{◌≡◌, ℕ, max, List, length, Some}
use Rattle.spg_opclass.specs.Meaning.{Meaning}
use Rattle.spg_forest.specs.Shape.{Shape}
use Rattle.spg_tree.specs.Table.{Table, table_with, with_meta}
use Rattle.spg_verify.specs.declared.reading.Verified.{Verified}
use Rattle.spg_verify.specs.Counts.{lives_in}
use Rattle.spg_verify.specs.Verdict.{IsGood}
use Rattle.spg_image.specs.declared.class.ImageClass.{ImageClass}
use Rattle.spg_image.specs.Classes.{code_of, OfClass}
use Rattle.spg_image.specs.Image.{Image, Reads, sheets_in}
use Rattle.spg_image.specs.Verifying.{IsImageOf}

-- the table of an image, of at most `limit` pages, or as many as it has where these are more
abbrev pub table_in : ℕ → Image → Table
table_in limit i = with_meta (table_with i.pages (max limit (length i.pages)) i.clock) i.clock i.remembered i.counter

-- its page count and its number of live leaf tuples
abbrev pub numbers_of : Image → Verified
numbers_of i = record { pages = length i.pages; entries = lives_in i.pages }

-- bytes that read as an image of well formed pages, of the class with this code, meet all clauses, and spell the image's table
abbrev pub SavedIsGood : {Key Recon Cond : Type 0} → Meaning Key Recon Cond → ℕ → Type 0
SavedIsGood m code = (i : Image) (bytes : List ℕ) (limit : ℕ) → Reads i bytes → i.class ≡ code → Shape m (sheets_in i) → IsGood m code limit (Some bytes) (table_in limit i)

-- the class is one whose images are known, and the pages are well formed by it
abbrev pub HasShape : Image → Type 0
HasShape i = (c : ImageClass) × (i.class ≡ code_of c) × OfClass (λ Key Recon Cond m code. Shape m (sheets_in i)) c

-- so what is verified of them are the numbers of its pages and live leaf tuples
abbrev pub SavedIsImage : Type 0
SavedIsImage = (i : Image) (bytes : List ℕ) → Reads i bytes → HasShape i → IsImageOf (Some bytes) (numbers_of i)
