-- What comes of an item that is copied, read, or gone on by.
use Rattle.std.proofs.Common.{◌≡◌, inr, ℕ, true, [], ◌∷◌, Option, Some, None, Result, Ok, Err, OnErr, sym, ap, ◌∙◌}
use Rattle.std.proofs.lemmas.Bool.{false≢true}
use Rattle.spg_opclass.specs.Meaning.{Meaning}
use Rattle.spg_opclass.specs.declared.copied.Copied.{Copied}
use Rattle.spg_opclass.specs.declared.query.Query.{Query}
use Rattle.spg_forest.specs.View.{Place}
use Rattle.spg_forest.specs.Sheets.{Sheets}
use Rattle.spg_forest.specs.Shape.{spots}
use Rattle.spg_rows.specs.Table as rows
use Rattle.spg_tree.specs.Table.{Table, sheets_of, latch_at}
use Rattle.spg_scan.specs.declared.copying.Copying.{Copying}
use Rattle.spg_scan.specs.declared.scan_copy.ScanCopy.{ScanCopy}
use Rattle.spg_scan.specs.declared.scan_copy.ScanCopy.TheVariants.{Read, Latched, Sift}
use Rattle.spg_scan.specs.Items.{Item, held, IsItem}
use Rattle.spg_scan.specs.Held.{kept_as}
use Rattle.spg_scan.specs.Scanning.{Scanning, replaced}
use Rattle.spg_scan.specs.Reading.{IsFreeFor}
use Rattle.spg_scan.specs.Parts.{IsPlaceAt, HasPlace, other_than}
use Rattle.spg_scan.proofs.Readings.{other_none}
use Rattle.spg_scan.specs.Copying.{is_copied, kept_copy, HasKept, IsCopying, Copies, IsPlain, IsPlaceOut, IsCopyOut}

-- what holds at any answer
pub on_err : {T E P : Type 0} (r : Result T E) → P → OnErr r P
on_err (Ok x) p = tt
on_err (Err e) p = p

-- what is kept is no place
pub no_copy : {O Key Recon Cond : Type 0} (query : Query O Key Recon Cond) (item : Item Recon) (x : Place) (r : Option Recon) (copied : Copied O Key Recon Cond) → item ≡ held x r → kept_copy query item ≡ Some copied → ⊥
no_copy query item x r copied e f = let g : None ≡ Some copied = sym (ap (kept_copy query) e) ∙ f in cc

module _ {O Key Recon Cond : Type 0} (s : Scanning O Key Recon Cond) (i : ℕ) where
  pub kept_no_held : (copied : Copied O Key Recon Cond) → HasKept s i copied → (x : Place) (r : Option Recon) → IsItem s.items i (held x r) → ⊥
  kept_no_held copied (item, there, copy) x r a = let e : Some item ≡ Some (held x r) = sym there ∙ a in let f : item ≡ held x r = cc e in no_copy s.query item x r copied f copy

  pub kept_free : (t : Table) (seat : ℕ) (copied : Copied O Key Recon Cond) → HasKept s i copied → IsFreeFor t s i seat
  kept_free t seat copied k x r by a e = absurd (kept_no_held copied k x r a)

  module _ (m : Meaning Key Recon Cond) (S : Sheets) (table : rows.Table O Key Recon Cond) (s2 : Scanning O Key Recon Cond) (place : Place) (there : IsPlaceAt s.items i place) where
    -- a copy that was made and kept
    pub made : (copying : Copying O Key Recon Cond) (copied : Copied O Key Recon Cond) → IsCopying S table s i (Some copying) → s2 ≡ replaced s i (kept_as copying.kept ∷ []) [] copying.met → kept_copy s.query (kept_as copying.kept) ≡ Some copied → Copies S table s s2 i copied
    made copying copied is after kept =
        let (meant, copies, met) = is place there.0 there.1 in
        record { place = place; recon = there.0; item = kept_as copying.kept; at = there.1; meant = meant; copies = copies; after = after ∙ ap (λ (n : ℕ). replaced s i (kept_as copying.kept ∷ []) [] n) met; kept = kept }

    pub plain : IsCopying S table s i None → IsPlain S s i
    plain is = (place, there.0, there.1, is place there.0 there.1)

    pub none_asked : IsCopying S table s i None → (x : Place) (r : Option Recon) → IsItem s.items i (held x r) → is_copied s.query x r (spots S x) ≡ true → ⊥
    none_asked is x r a e = false≢true (sym (is x r a) ∙ e)

  pub place_out : (m : Meaning Key Recon Cond) (t : Table) (table : rows.Table O Key Recon Cond) (s2 : Scanning O Key Recon Cond) (seat : ℕ) → IsFreeFor t s i seat → (out : ScanCopy O Key Recon Cond) → IsPlaceOut m (sheets_of t) table s s2 i out → IsCopyOut m t table s s2 i seat out
  place_out m t table s2 seat free Read (p, r) = (free, p, r)
  place_out m t table s2 seat free (Latched block by) h = absurd h
  place_out m t table s2 seat free (Sift copied) c = inr (free, c)

  pub place_same : (place : Place) → IsPlaceAt s.items i place → (x : Place) (r : Option Recon) → IsItem s.items i (held x r) → x ≡ place
  place_same place (q, b) x r a = let e : Some (held x r) ≡ Some (held place q) = sym a ∙ b in let f : held x r ≡ held place q = cc e in cc f

  -- a place whose block no other seat holds
  pub free_at : (t : Table) (seat : ℕ) (place : Place) → IsPlaceAt s.items i place → other_than seat (latch_at t place.block) ≡ None → IsFreeFor t s i seat
  free_at t seat place there none x r by a e = other_none seat by (latch_at t place.block) none (ap (λ (y : Place). latch_at t y.block) (sym (place_same place there x r a)) ∙ e)

  -- what is no place stands on no block
  pub free_apart : (t : Table) (seat : ℕ) → (HasPlace s.items i → ⊥) → IsFreeFor t s i seat
  free_apart t seat none x r by a e = absurd (none (x, (r, a)))
