-- How a run of commands ends.
use Rattle.std.specs.Prelude.{◌≡◌, ℕ, ◌⊎◌, ◌↔◌, Bool, true, false, ◌||◌, if◌then◌else◌, List, [], ◌∷◌}
use Rattle.spg_report.specs.declared.outcome.Outcome.{Outcome}
use Rattle.spg_report.specs.declared.outcome.Outcome.TheVariants as outcome
use Rattle.spg_report.specs.declared.record.Record.{Record}
use Rattle.spg_histories.specs.declared.status.Status.{Status}
use Rattle.spg_histories.specs.declared.status.Status.TheVariants as status

-- the status that the process ends with
abbrev pub code_of : Status → ℕ
code_of status.Done = 0
code_of status.Usage = 2
code_of (status.BadScript line) = 3
code_of status.ReadFault = 4
code_of status.WriteFault = 5
code_of status.ImageFault = 6
code_of (status.BadImage block reason) = 7
code_of status.Memory = 8
code_of status.Full = 9

-- what writing the text met
pub data Writing : Type 0 where
  all_taken : Writing
  write_failed : Writing
  memory_wanting : Writing

abbrev pub is_fault : Outcome → Bool
is_fault outcome.ImageFault = true
is_fault o = false

abbrev pub is_memory : Outcome → Bool
is_memory outcome.Memory = true
is_memory o = false

-- some record has such an outcome
abbrev pub any_outcome : (Outcome → Bool) → List Record → Bool
any_outcome test [] = false
any_outcome test (r ∷ records) = test r.outcome || any_outcome test records

-- the status of commands that have run
abbrev pub status_after : Writing → List Record → Status
status_after write_failed records = status.WriteFault
status_after memory_wanting records = status.Memory
status_after all_taken records = if any_outcome is_fault records then status.ImageFault else (if any_outcome is_memory records then status.Memory else status.Done)

-- what each status tells of the records and of writing
pub record StatusesTell : Type 0 where
  pub done : (w : Writing) (records : List Record) → (status_after w records ≡ status.Done) ↔ ((w ≡ all_taken) × (any_outcome is_fault records ≡ false) × (any_outcome is_memory records ≡ false))
  pub image_fault : (w : Writing) (records : List Record) → (status_after w records ≡ status.ImageFault) ↔ ((w ≡ all_taken) × (any_outcome is_fault records ≡ true))
  pub write_fault : (w : Writing) (records : List Record) → (status_after w records ≡ status.WriteFault) ↔ (w ≡ write_failed)
  pub memory : (w : Writing) (records : List Record) → status_after w records ≡ status.Memory → (w ≡ memory_wanting) ⊎ ((w ≡ all_taken) × (any_outcome is_fault records ≡ false) × (any_outcome is_memory records ≡ true))
