-- What `load` and `verify` answer of the image that `save` left under a name.
use Rattle.std.specs.Prelude.{◌≡◌, ℕ, ◌↔◌, List, Option, Some, Result, Ok, MatchResult}
use Rattle.spg_base.specs.Row.{RowAt}
use Rattle.spg_opclass.specs.Meaning.{Meaning}
use Rattle.spg_io.specs.Held.{Holding, Holds}
use Rattle.spg_rows.specs.declared.entry.Entry.{Entry}
use Rattle.spg_rows.specs.Loads.{load_events, IsListed}
use Rattle.spg_forest.specs.Shape.{Represents}
use Rattle.spg_core.specs.Seen.{Seen, past_of, IsPresentWith}
use Rattle.spg_verify.specs.declared.reading.Verified.{Verified}
use Rattle.spg_verify.specs.declared.refused.ImageRefused.{ImageRefused}
use Rattle.spg_verify.specs.Refusals.{IfBad}
use Rattle.spg_verify.specs.Verdict.{FailsFirst}
use Rattle.spg_image.specs.Image.{Image, image_of, sheets_in}
use Rattle.spg_image.specs.Saving.{Saves}
use Rattle.spg_image.specs.Verifying.{IsImageOf, IsBadImage, IsLoadOf}
use Rattle.spg_saved.specs.Saved.{table_in, numbers_of, HasShape}

-- the state has the saved table, and a journal that opens and puts just the entries that were present
pub record IsSaved {O Key Recon Cond : Type 0} (code limit : ℕ) (saved seen : Seen O Key Recon Cond) : Type 0 where
  pub table : seen.table ≡ table_in limit (image_of code saved.table)
  pub entries : List (Entry Key)
  pub journal : seen.journal ≡ load_events entries
  pub exact : (row : RowAt) (key : Option Key) → IsPresentWith (past_of saved) row key ↔ IsListed entries row key

-- where the name holds what `save` answered `Ok` of, no clause fails, and a state that is loaded has what was saved
abbrev pub SavedLoads : (O Key Recon Cond : Type 0) → Meaning Key Recon Cond → ℕ → Type 0
SavedLoads O Key Recon Cond m code = (saved : Seen O Key Recon Cond) (old : Holding) (now : Option Holding) (name : List ℕ) (pages limit : ℕ) (result : Result (Seen O Key Recon Cond) ImageRefused)
    → Saves (image_of code saved.table) (Some old) now name (Ok pages)
    → Represents m (sheets_in (image_of code saved.table)) (IsPresentWith (past_of saved))
    → Holds now name (λ held. MatchResult result (λ seen. IsLoadOf m code limit held seen) (λ e. IfBad e (λ f. FailsFirst m code limit held f)))
    → MatchResult result (λ seen. IsSaved code limit saved seen) (λ e. IfBad e (λ f. ⊥))

-- and what is verified are the numbers of the saved pages and live leaf tuples
abbrev pub SavedVerifies : Type 0
SavedVerifies = (i : Image) (old : Holding) (now : Option Holding) (name : List ℕ) (pages : ℕ) (result : Result Verified ImageRefused)
    → Saves i (Some old) now name (Ok pages)
    → HasShape i
    → Holds now name (λ held. MatchResult result (λ v. IsImageOf held v) (λ e. IfBad e (λ f. IsBadImage held f)))
    → MatchResult result (λ v. v ≡ numbers_of i) (λ e. IfBad e (λ f. ⊥))
