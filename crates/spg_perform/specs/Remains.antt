-- What stands under a name after the saves of a run, those that went wrong among them.
use Rattle.std.specs.Prelude.{◌≡◌, ◌⊎◌, ℕ, List, [], ◌∷◌, Option, Some, None, ⊤}
use Rattle.std.specs.List.{AllByRecursion}
use Rattle.spg_forest.specs.Sheets.{Sheets}
use Rattle.spg_script.specs.declared.command.Command.{Command}
use Rattle.spg_script.specs.declared.command.Command.TheVariants as asked
use Rattle.spg_report.specs.declared.outcome.Outcome.{Outcome}
use Rattle.spg_report.specs.declared.outcome.Outcome.TheVariants as outcome
use Rattle.spg_histories.specs.Telling.{Step, is_save, WhereTrue}
use Rattle.spg_image.specs.Image.{Image, sheets_in}
use Rattle.spg_image.specs.Saving.{HoldsImage, HoldsFirst, HoldsFirstAndFront}

-- what is told under a name, where it is told, is an image of the class with these pages
abbrev pub ReadsBack : ℕ → Option (Option (List ℕ)) → Sheets → Type 0
ReadsBack code None g = ⊤
ReadsBack code (Some held) g = (image : Image) × HoldsImage image held × (image.class ≡ code) × (sheets_in image ≡ g)

-- it is the first pages of such an image, but not all, and behind them a front of the next
abbrev pub ReadsFirstAndFront : ℕ → Option (Option (List ℕ)) → Sheets → Type 0
ReadsFirstAndFront code None g = ⊤
ReadsFirstAndFront code (Some held) g = (image : Image) × HoldsFirstAndFront image held × (image.class ≡ code) × (sheets_in image ≡ g)

-- it is the first pages alone
abbrev pub ReadsFirst : ℕ → Option (Option (List ℕ)) → Sheets → Type 0
ReadsFirst code None g = ⊤
ReadsFirst code (Some held) g = (image : Image) × HoldsFirst image held × (image.class ≡ code) × (sheets_in image ≡ g)

-- what a save of these pages leaves under its name: all of them; where the images failed, the first ones that had come and what came of the next; without memory, the first ones
abbrev pub Leaves : ℕ → Outcome → Option (Option (List ℕ)) → Sheets → Type 0
Leaves code (outcome.Saved pages) told g = ReadsBack code told g
Leaves code outcome.ImageFault told g = ReadsFirstAndFront code told g
Leaves code outcome.Memory told g = ReadsFirst code told g
Leaves code o told g = ⊥

module _ (code : ℕ) (holds : Sheets → ℕ → Type 0) where
  -- a save with this outcome left what is told, of pages that hold the rows of this position
  abbrev pub LeftBy : Option (Option (List ℕ)) → ℕ → Outcome → Type 0
  LeftBy told at o = (g : Sheets) × Leaves code o told g × holds g at

  -- what is told after a save: what it left, or, where it went wrong, what stood before it
  abbrev pub AfterSave : Option (Option (List ℕ)) → ℕ → Outcome → Type 0 → Type 0
  AfterSave told at (outcome.Saved pages) before = LeftBy told at (outcome.Saved pages)
  AfterSave told at outcome.ImageFault before = before ⊎ LeftBy told at outcome.ImageFault
  AfterSave told at outcome.Memory before = before ⊎ LeftBy told at outcome.Memory
  AfterSave told at o before = ⊥

  -- what is told under a name after the steps of a run, the newest first, where this was told at its start
  abbrev pub Remains : (told was : Option (Option (List ℕ))) → List ℕ → List Step → Type 0
  Remains told was name [] = told ≡ was
  Remains told was name (x ∷ past) = WhereTrue (is_save name x.task.command) (AfterSave told x.done.span.from x.done.outcome (Remains told was name past)) (Remains told was name past)

-- a count tells: it needs no memory
abbrev pub CountTells : Command → Outcome → Type 0
CountTells asked.Stat outcome.Memory = ⊥
CountTells c o = ⊤

-- so does each count of a run
abbrev pub AllCounted : List Step → Type 0
AllCounted steps = AllByRecursion (λ (x : Step). CountTells x.task.command x.done.outcome) steps
