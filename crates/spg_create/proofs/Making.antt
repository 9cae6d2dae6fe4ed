-- A table that was built of entries, and its image.
use Rattle.std.proofs.Common.{◌≡◌, ℕ, ◌+◌, ◌*◌, ◌≤◌, List, length, Option, Some, None, Result, Ok, refl, sym, ◌∙◌, subst}
use Rattle.spg_opclass.specs.Meaning.{Meaning}
use Rattle.spg_forest.specs.Shape.{Represents}
use Rattle.spg_rows.specs.Present.{IsPresentWith}
use Rattle.spg_tree.specs.Table.{Table, sheets_of}
use Rattle.spg_io.specs.Held.{Holding, Changes}
use Rattle.spg_verify.specs.declared.reading.Verified.{Verified}
use Rattle.spg_verify.specs.Verdict.{IsGood, IsVerified}
use Rattle.spg_image.specs.Image.{Image, image_of, sheets_in}
use Rattle.spg_image.specs.Saving.{Saves, HoldsImage}
use Rattle.spg_image.specs.declared.refused.SaveRefused.{SaveRefused}
use Rattle.spg_image.proofs.MetaOut.{represents_same}
use Rattle.spg_build.specs.declared.entry.Entry.{Entry}
use Rattle.spg_build.specs.Built.{HasIn, AreRowsOnce, IsAtRest}
use Rattle.spg_build.specs.Journal.{built_past}
use Rattle.spg_build.proofs.Journals.{built_present}
use Rattle.spg_saved.proofs.Saved.{saved_verified}
use Rattle.spg_create.specs.Creates.{most_pages, IsTableOf}
use Rattle.spg_create.proofs.Lengths.{as_many_leaves}

pub table_of : (O : Type 0) {Key Recon Cond : Type 0} (m : Meaning Key Recon Cond) (code : ℕ) (entries : List (Entry Key)) (table : Table) → AreRowsOnce entries → Represents m (sheets_of table) (IsPresentWith (built_past O Recon Cond entries)) → IsAtRest table most_pages → length table.pages ≤ 4 * length entries + 3 → IsTableOf m code entries table
table_of O {Key} {Recon} {Cond} m code entries table once represents at_rest few =
    let whole : Represents m (sheets_of table) (HasIn entries) = record {
      shape = represents.shape;
      entries = λ row key. let a = represents.entries row key in let b = built_present O Recon Cond entries once row key in ((λ h. b.0 (a.0 h)), (λ h. a.1 (b.1 h)));
    } in
    record { represents = represents_same m code table (HasIn entries) whole; at_rest = at_rest; few = few }

-- the code is that of the class, and the result is known
pub saved_as : (code of_class : ℕ) (table : Table) (old now : Option Holding) (name : List ℕ) (result known : Result ℕ SaveRefused) → code ≡ of_class → result ≡ known → Saves (image_of code table) old now name result → Saves (image_of of_class table) old now name known
saved_as code of_class table old now name result known same is saved = subst (λ (r : Result ℕ SaveRefused). Saves (image_of of_class table) old now name r) is (subst (λ (k : ℕ). Saves (image_of k table) old now name result) same saved)

-- ---- what was saved is verified

changes_more : (old now : Option Holding) (name : List ℕ) (P Q : Option (List ℕ) → Option (List ℕ) → Type 0) → ((was held : Option (List ℕ)) → P was held → Q was held) → Changes old now name P → Changes old now name Q
changes_more None now name P Q more changes = changes
changes_more (Some old) None name P Q more changes = changes
changes_more (Some old) (Some now) name P Q more changes = (more (old name) (now name) changes.0, changes.1)

module _ {Key Recon Cond : Type 0} (m : Meaning Key Recon Cond) (code : ℕ) (entries : List (Entry Key)) (table : Table) (pages n : ℕ) (once : AreRowsOnce entries) (made : IsTableOf m code entries table) (count : n ≡ length entries) where
  abbrev image : Image
  image = image_of code table

  abbrev numbers : Verified
  numbers = record { pages = pages; entries = n }

  held_verified : (held : Option (List ℕ)) → pages ≡ length image.pages → HoldsImage image held → IsVerified m code held numbers
  held_verified held same (bytes, is, reads) =
      let (t, good, long, leaves) = saved_verified m code image bytes reads refl made.represents.shape in
      (t, subst (λ (h : Option (List ℕ)). IsGood m code 4 h t) (sym is) good, same ∙ long, count ∙ as_many_leaves m (sheets_in image) entries made.represents once ∙ leaves)

  pub image_verified : (old now : Option Holding) (name : List ℕ) → Saves image old now name (Ok pages) → Changes old now name (λ was held. IsVerified m code held numbers)
  image_verified old now name (same, changes) = changes_more old now name (λ was held. HoldsImage image held) (λ was held. IsVerified m code held numbers) (λ was held h. held_verified held same h) changes
