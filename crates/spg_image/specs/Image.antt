-- What bytes are an image, and what is read of them.
use Rattle.std.specs.Prelude.{◌≡◌, ℕ, ◌-◌, ◌*◌, ◌<◌, ◌≤◌, ◌^◌, true, false, List, ◌∷◌, length, map, drop}
use Rattle.std.specs.List.{range_with_len}
use Rattle.spg_forest.specs.Sheets.{Sheet, Sheets, blank}
use Rattle.spg_tree.specs.Table.{Table, AreRemembered}
use Rattle.spg_io.specs.Held.{page_size}
use Rattle.spg_page.specs.Came.{sheet_in}
use Rattle.spg_verify.specs.Versions.{version_of}
use Rattle.spg_verify.specs.Verdict.{page_at}
use Rattle.spg_image.specs.Page.{IsPageAt}
use Rattle.spg_image.specs.Meta.{IsMeta, Said, said_in}

-- what an image tells: the code of its class; its clock; its pages, where block 0, the meta page, stands as an empty leaf
-- page of the main tree; the remembered pages; the rotating counter
pub record Image : Type 0 where
  pub class : ℕ
  pub clock : ℕ
  pub pages : List Sheet
  pub remembered : List ℕ
  pub counter : ℕ

-- the pages of the laws
abbrev pub sheets_in : Image → Sheets
sheets_in i = record { clock = i.clock; sheets = i.pages }

-- the image of a table's pages
abbrev pub image_of : ℕ → Table → Image
image_of class t = record { class = class; clock = t.clock; pages = blank false ∷ drop 1 t.pages; remembered = t.remembered; counter = t.counter }

-- what the meta page of an image's bytes says
abbrev pub meta_in : List ℕ → Said
meta_in bytes = said_in (page_at bytes 0)

-- The bytes are pages of the version of the class, from block 0 on, as many as the meta page says: the meta page, whose
-- numbers are in their ranges, and pages of tuples, the root of the main tree and that of the nulls tree first
pub record IsImage (bytes : List ℕ) : Type 0 where
  pub meta : IsMeta (page_at bytes 0)
  pub from : 3 ≤ (meta_in bytes).count
  pub to : (meta_in bytes).count ≤ 131072
  pub len : length bytes ≡ page_size * (meta_in bytes).count
  pub clock : (meta_in bytes).clock < 2 ^ 48
  pub remembered : AreRemembered (meta_in bytes).count (meta_in bytes).remembered
  pub counter : (meta_in bytes).counter < 8
  pub pages : (b : ℕ) → 0 < b → b < (meta_in bytes).count → IsPageAt (version_of (meta_in bytes).class) b (page_at bytes b)
  pub main : (sheet_in (page_at bytes 1)).nulls ≡ false
  pub nulls : (sheet_in (page_at bytes 2)).nulls ≡ true

-- the image that is read of the bytes
abbrev pub image_in : List ℕ → Image
image_in bytes = record {
  class = (meta_in bytes).class;
  clock = (meta_in bytes).clock;
  pages = blank false ∷ map (λ b. sheet_in (page_at bytes b)) (range_with_len 1 ((meta_in bytes).count - 1));
  remembered = (meta_in bytes).remembered;
  counter = (meta_in bytes).counter;
}

-- the bytes are an image, and it reads as this one
pub record Reads (image : Image) (bytes : List ℕ) : Type 0 where
  pub is : IsImage bytes
  pub value : image_in bytes ≡ image
