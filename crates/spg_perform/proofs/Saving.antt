-- What a save leaves under its name, of the pages of the table.
use Rattle.std.proofs.Common.{◌≡◌, ◌<◌, ℕ, false, List, [], ◌∷◌, length, get_or, drop, Option, Some, None, Ok, Err, inl, inr, refl, sym, ap, ◌∙◌, arith}
use Rattle.spg_forest.specs.Sheets.{Sheet, Sheets, blank}
use Rattle.spg_tree.specs.Table.{Table, IsSound, sheets_of}
use Rattle.spg_io.specs.Held.{Holding, Changes}
use Rattle.spg_image.specs.Image.{Image, image_of, sheets_in}
use Rattle.spg_image.specs.declared.refused.SaveRefused.TheVariants.{ImageFault, Memory}
use Rattle.spg_image.specs.Saving.{HoldsImage, HoldsFirst, HoldsFirstAndFront, Saves}
use Rattle.spg_report.specs.declared.outcome.Outcome.{Outcome}
use Rattle.spg_report.specs.declared.outcome.Outcome.TheVariants as outcome
use Rattle.spg_perform.specs.Remains.{Leaves}
use Rattle.spg_perform.specs.Saved.{LeavesAt, IsSaved}

-- a change tells less
changes_less : (old now : Option Holding) (name : List ℕ) (P R : Option (List ℕ) → Option (List ℕ) → Type 0) → Changes old now name P → ((x y : Option (List ℕ)) → P x y → R x y) → Changes old now name R
changes_less None now name P R p f = tt
changes_less (Some old) None name P R p f = absurd p
changes_less (Some old) (Some now) name P R p f = (f (old name) (now name) p.0, p.1)

-- the pages of the image are those of the table, the meta page too
same_pages : (ss : List Sheet) → 0 < length ss → get_or ss 0 (blank false) ≡ blank false → blank false ∷ drop 1 ss ≡ ss
same_pages [] h e = absurd (omega arith)
same_pages (s ∷ ss) h e = ap (λ x. x ∷ ss) (sym e)

pages_same : (code : ℕ) (t : Table) → IsSound t → (image_of code t).pages ≡ t.pages
pages_same code t sound = same_pages t.pages (omega (arith, sound.roots)) sound.meta

sheets_same : (code : ℕ) (t : Table) → IsSound t → sheets_in (image_of code t) ≡ sheets_of t
sheets_same code t sound = ap (λ ss. sheets t.clock ss) (pages_same code t sound)
  where
    sheets : ℕ → List Sheet → Sheets
    sheets clock ss = record { clock = clock; sheets = ss }

module _ (code : ℕ) (t : Table) (sound : IsSound t) (old now : Option Holding) (name : List ℕ) where
  -- what holds of the image under the name is told of its pages
  of_image : (H : Image → Option (List ℕ) → Type 0) (o : Outcome) → ((held : Option (List ℕ)) → ((image : Image) × H image held × (image.class ≡ code) × (sheets_in image ≡ sheets_of t)) → Leaves code o (Some held) (sheets_of t))
      → Changes old now name (λ _ held. H (image_of code t) held) → LeavesAt code t old now name o
  of_image H o leaves h = changes_less old now name (λ _ held. H (image_of code t) held) (λ _ held. Leaves code o (Some held) (sheets_of t)) h (λ x held is. leaves held (image_of code t, is, refl, sheets_same code t sound))

  pub saved : (pages : ℕ) → Saves (image_of code t) old now name (Ok pages) → IsSaved code t old now name (outcome.Saved pages)
  saved pages h = (h.0 ∙ ap length (pages_same code t sound), of_image HoldsImage (outcome.Saved pages) (λ held is. is) h.1)

  pub failed : Saves (image_of code t) old now name (Err ImageFault) → IsSaved code t old now name outcome.ImageFault
  failed (inl stays) = inl stays
  failed (inr h) = inr (of_image HoldsFirstAndFront outcome.ImageFault (λ held is. is) h)

  pub unsaved : Saves (image_of code t) old now name (Err Memory) → IsSaved code t old now name outcome.Memory
  unsaved (inl stays) = inl stays
  unsaved (inr h) = inr (of_image HoldsFirst outcome.Memory (λ held is. is) h)
