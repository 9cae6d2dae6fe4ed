-- What a save of a seat leaves.
use Rattle.std.specs.Prelude.{◌≡◌, ◌⊎◌, ℕ, List, reverse, Option, Err}
use Rattle.spg_opclass.specs.Meaning.{Meaning}
use Rattle.spg_io.specs.Held.{Holding}
use Rattle.spg_forest.specs.Shape.{Represents}
use Rattle.spg_tree.specs.Table.{Table}
use Rattle.spg_rows.specs.declared.event.Event.{Event}
use Rattle.spg_rows.specs.Present.{IsPresentWith}
use Rattle.spg_turn.specs.declared.rule.View.{View}
use Rattle.spg_image.specs.Image.{image_of, sheets_in}
use Rattle.spg_image.specs.Saving.{Saves}
use Rattle.spg_image.specs.declared.refused.SaveRefused.TheVariants.{Memory}
use Rattle.spg_desk.specs.Looks.{IsCopyOf, LooksAt}
use Rattle.spg_share.specs.declared.saving.SaveAnswer.{SaveAnswer}

module _ {O Key Recon Cond : Type 0} (m : Meaning Key Recon Cond) (code : ℕ) (v w : View (Event O Key Recon Cond)) (held now : Option Holding) (name : List ℕ) where
  -- an image of these pages came under the name, and it holds just the rows that are present after the events that the seat has seen then
  pub record SavesCopy (t : Table) (a : SaveAnswer) : Type 0 where
    pub copy : IsCopyOf m v.origin (reverse w.seen) t
    pub represents : Represents m (sheets_in (image_of code t)) (IsPresentWith (reverse w.seen))
    pub saves : Saves (image_of code t) held now name a.saved

  -- or there was no memory for a copy, and every name holds what it held
  abbrev pub DidSave : SaveAnswer → Type 0
  DidSave a = LooksAt m v w a.at × (((t : Table) × SavesCopy t a) ⊎ ((a.saved ≡ Err Memory) × (now ≡ held)))
