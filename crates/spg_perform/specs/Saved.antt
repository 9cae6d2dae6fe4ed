-- What a save leaves, as its outcome says.
use Rattle.std.specs.Prelude.{◌≡◌, ◌⊎◌, ℕ, List, length, Option, Some}
use Rattle.spg_io.specs.Held.{Holding, Stays, Changes}
use Rattle.spg_tree.specs.Table.{Table, sheets_of}
use Rattle.spg_report.specs.declared.outcome.Outcome.{Outcome}
use Rattle.spg_report.specs.declared.outcome.Outcome.TheVariants as outcome
use Rattle.spg_perform.specs.Remains.{Leaves}

-- this name holds what a save with this outcome leaves, and no other name changed
abbrev pub LeavesAt : ℕ → Table → Option Holding → Option Holding → List ℕ → Outcome → Type 0
LeavesAt code t old now name o = Changes old now name (λ _ held. Leaves code o (Some held) (sheets_of t))

-- the name holds the pages, so many; or the save went wrong, and every name holds what it held, or this one the first pages, those that had come
abbrev pub IsSaved : ℕ → Table → Option Holding → Option Holding → List ℕ → Outcome → Type 0
IsSaved code t old now name (outcome.Saved pages) = (pages ≡ length t.pages) × LeavesAt code t old now name (outcome.Saved pages)
IsSaved code t old now name outcome.ImageFault = Stays old now ⊎ LeavesAt code t old now name outcome.ImageFault
IsSaved code t old now name outcome.Memory = Stays old now ⊎ LeavesAt code t old now name outcome.Memory
IsSaved code t old now name o = ⊥
