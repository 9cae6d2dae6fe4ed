-- What comes of the writes of a pair.
use Rattle.std.specs.Prelude.{◌≡◌, ◌<◌, ◌≤◌, ◌⊎◌, ℕ, true, false, Option, length}
use Rattle.spg_base.specs.Row.{RowAt}
use Rattle.spg_base.specs.declared.names.Span.{Span}
use Rattle.spg_opclass.specs.Meaning.{Meaning}
use Rattle.spg_rows.specs.declared.event.Why.{Why}
use Rattle.spg_rows.specs.declared.event.Why.TheVariants as why
use Rattle.spg_tree.specs.declared.stand.StepRefused.{StepRefused}
use Rattle.spg_tree.specs.declared.stand.StepRefused.TheVariants as step
use Rattle.spg_core.specs.Seen.{Seen}
use Rattle.spg_whole.specs.declared.refused.InsertRefused.TheVariants as refused
use Rattle.spg_whole.specs.Calls.{Inserts, KeepsOut, Deletes, Vacuums, VacuumsNot}
use Rattle.spg_standby.specs.declared.wrote.Wrote.{Wrote}
use Rattle.spg_standby.specs.declared.wrote.Wrote.TheVariants as came

-- an insert: its row was put, or why it was kept out, and what was done
abbrev pub Inserted : {O Key Recon Cond : Type 0} → Meaning Key Recon Cond → Seen O Key Recon Cond → Seen O Key Recon Cond → ℕ → RowAt → Option Key → Wrote → Type 0
Inserted m old new seat row key came.Added = Inserts old new seat row key
Inserted m old new seat row key came.RowUsed = KeepsOut m old new seat row key refused.RowUsed
Inserted m old new seat row key came.IndexFull = KeepsOut m old new seat row key refused.IndexFull
Inserted m old new seat row key came.ClockFull = KeepsOut m old new seat row key refused.ClockFull
Inserted m old new seat row key came.Killed = ⊥
Inserted m old new seat row key came.NotLive = ⊥
Inserted m old new seat row key (came.Vacuumed n) = ⊥
Inserted m old new seat row key came.Memory = KeepsOut m old new seat row key refused.Memory

-- with what cause an insert is given up after a refused section, and what is answered
abbrev pub why_of : StepRefused → Why
why_of step.IndexFull = why.Full
why_of step.ClockFull = why.Clock
why_of step.Memory = why.Given

abbrev pub came_of : StepRefused → Wrote
came_of step.IndexFull = came.IndexFull
came_of step.ClockFull = came.ClockFull
came_of step.Memory = came.Memory

-- a deletion: the row was deleted exactly where it was live
abbrev pub Deleted : {O Key Recon Cond : Type 0} → Seen O Key Recon Cond → Seen O Key Recon Cond → ℕ → RowAt → Wrote → Type 0
Deleted old new seat row came.Added = ⊥
Deleted old new seat row came.RowUsed = ⊥
Deleted old new seat row came.IndexFull = ⊥
Deleted old new seat row came.ClockFull = ⊥
Deleted old new seat row came.Killed = Deletes old new seat row true
Deleted old new seat row came.NotLive = Deletes old new seat row false
Deleted old new seat row (came.Vacuumed n) = ⊥
Deleted old new seat row came.Memory = new ≡ old

-- a vacuum: it came to its end, or was given up
abbrev pub Vacuumed : {O Key Recon Cond : Type 0} → Seen O Key Recon Cond → Seen O Key Recon Cond → ℕ → Wrote → Type 0
Vacuumed old new seat came.Added = ⊥
Vacuumed old new seat came.RowUsed = ⊥
Vacuumed old new seat came.IndexFull = ⊥
Vacuumed old new seat came.ClockFull = ⊥
Vacuumed old new seat came.Killed = ⊥
Vacuumed old new seat came.NotLive = ⊥
Vacuumed old new seat (came.Vacuumed n) = Vacuums old new seat n
Vacuumed old new seat came.Memory = VacuumsNot old new seat

-- what is answered where so many records are queued behind a write, and this number may be: what came of the write, or `Memory` exactly where more are queued
abbrev pub Settles : ℕ → ℕ → Wrote → Wrote → Type 0
Settles queued lag wrote answer = ((queued ≤ lag) × (answer ≡ wrote)) ⊎ ((lag < queued) × (answer ≡ came.Memory))

abbrev pub Answers : (Wrote → Type 0) → ℕ → ℕ → Wrote → Type 0
Answers Came queued lag answer = (wrote : Wrote) × Came wrote × Settles queued lag wrote answer

-- from the length of the journal before to that behind
abbrev pub IsSpanOf : {O Key Recon Cond : Type 0} → Seen O Key Recon Cond → Seen O Key Recon Cond → Span → Type 0
IsSpanOf old new span = (span.from ≡ length old.journal) × (span.to ≡ length new.journal)
