-- What is created of inserts, and why it is not.
use Rattle.std.specs.Prelude.{◌≡◌, ◌⊎◌, ◌<◌, ◌≤◌, ◌+◌, ◌*◌, ℕ, List, [], length, Option, Result, Ok, Err}
use Rattle.spg_io.specs.Held.{Holding, Changes}
use Rattle.spg_io.specs.Causes.{Rose}
use Rattle.spg_opclass.specs.Meaning.{Meaning}
use Rattle.spg_forest.specs.Shape.{Represents}
use Rattle.spg_tree.specs.Table.{Table}
use Rattle.spg_verify.specs.declared.reading.Verified.{Verified}
use Rattle.spg_verify.specs.Verdict.{IsVerified}
use Rattle.spg_image.specs.Image.{image_of, sheets_in}
use Rattle.spg_image.specs.Saving.{Saves}
use Rattle.spg_image.specs.declared.refused.SaveRefused.{SaveRefused}
use Rattle.spg_image.specs.declared.refused.SaveRefused.TheVariants as saves
use Rattle.spg_script.specs.declared.inserts.Insert.{Insert}
use Rattle.spg_script.specs.Speech.{Speech}
use Rattle.spg_build.specs.declared.entry.Entry.{Entry}
use Rattle.spg_build.specs.Built.{HasIn, AreRowsOnce, IsAtRest}
use Rattle.spg_create.specs.Keeps.{Keeps}
use Rattle.spg_create.specs.declared.whole.Created.{Created}
use Rattle.spg_create.specs.declared.refused.CreateRefused.{CreateRefused}
use Rattle.spg_create.specs.declared.refused.CreateRefused.TheVariants.{IndexFull, ImageFault, Memory}

-- the greatest number of pages
abbrev pub most_pages : ℕ
most_pages = 131072

-- entries that inserts lead to
pub record AreKept {Key Cond : Type 0} (speech : Speech Key Cond) (inserts : List Insert) (entries : List (Entry Key)) (skipped : ℕ) : Type 0 where
  pub keeps : Keeps speech [] inserts entries skipped
  pub once : AreRowsOnce entries

-- a table of well formed pages that hold exactly these entries, as its image shows; nothing was counted, there is no redirect, and of pages there are few
pub record IsTableOf {Key Recon Cond : Type 0} (m : Meaning Key Recon Cond) (code : ℕ) (entries : List (Entry Key)) (table : Table) : Type 0 where
  pub represents : Represents m (sheets_in (image_of code table)) (HasIn entries)
  pub at_rest : IsAtRest table most_pages
  pub few : length table.pages ≤ 4 * length entries + 3

-- the numbers of pages and entries of what was created, as `verify` tells them
abbrev pub numbers_of : Created → Verified
numbers_of c = record { pages = c.pages; entries = c.entries }

-- The image of such a table is under the name, and no other name changed; the numbers are those of its entries, of the inserts that were skipped, and of its pages. The bytes under the name fail no clause of an image, and have these numbers
pub record IsCreated {Key Recon Cond : Type 0} (m : Meaning Key Recon Cond) (speech : Speech Key Cond) (code : ℕ) (inserts : List Insert) (name : List ℕ) (old now : Option Holding) (f f_after : ℕ) (c : Created) : Type 0 where
  pub entries : List (Entry Key)
  pub kept : AreKept speech inserts entries c.skipped
  pub count : c.entries ≡ length entries
  pub table : Table
  pub table_of : IsTableOf m code entries table
  pub saved : Saves (image_of code table) old now name (Ok c.pages)
  pub verified : Changes old now name (λ was held. IsVerified m code held (numbers_of c))
  pub same : f_after ≡ f

-- the entries are too many for the greatest number of pages; the images are as they were
pub record IsTooMuch {Key Cond : Type 0} (speech : Speech Key Cond) (inserts : List Insert) (old now : Option Holding) (f f_after : ℕ) : Type 0 where
  pub entries : List (Entry Key)
  pub skipped : ℕ
  pub kept : AreKept speech inserts entries skipped
  pub many : most_pages < 4 * length entries + 7
  pub untouched : (now ≡ old) × (f_after ≡ f)

-- a table of the entries was there, and saving it was refused so
pub record IsUnsaved {Key Recon Cond : Type 0} (m : Meaning Key Recon Cond) (speech : Speech Key Cond) (code : ℕ) (inserts : List Insert) (name : List ℕ) (old now : Option Holding) (f f_after : ℕ) (why : SaveRefused) : Type 0 where
  pub entries : List (Entry Key)
  pub skipped : ℕ
  pub kept : AreKept speech inserts entries skipped
  pub table : Table
  pub table_of : IsTableOf m code entries table
  pub saved : Saves (image_of code table) old now name (Err why)
  pub later : f ≤ f_after

-- an index is created, or why there is none; want of memory is free
abbrev pub Creates : {Key Recon Cond : Type 0} → Meaning Key Recon Cond → Speech Key Cond → ℕ → List Insert → List ℕ → (old now : Option Holding) → (f f_after : ℕ) → Result Created CreateRefused → Type 0
Creates m speech code inserts name old now f f_after (Ok c) = IsCreated m speech code inserts name old now f f_after c
Creates m speech code inserts name old now f f_after (Err IndexFull) = IsTooMuch speech inserts old now f f_after
Creates m speech code inserts name old now f f_after (Err ImageFault) = IsUnsaved m speech code inserts name old now f f_after saves.ImageFault × Rose f f_after
Creates m speech code inserts name old now f f_after (Err Memory) = ((now ≡ old) × (f_after ≡ f)) ⊎ (IsUnsaved m speech code inserts name old now f f_after saves.Memory × (f_after ≡ f))
