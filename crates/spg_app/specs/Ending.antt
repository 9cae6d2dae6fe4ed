-- How the commands of a script end.
use Rattle.std.specs.Prelude.{◌≡◌, ℕ, List, Option, Some, None, Result, Ok, Err}
use Rattle.std.specs.List.{AllByRecursion, AllZip}
use Rattle.spg_base.specs.declared.recorded.Origin.{Origin}
use Rattle.spg_io.specs.Held.{Holding}
use Rattle.spg_io.specs.Causes.{Rose}
use Rattle.spg_io.specs.declared.sink.IoRefused.{IoRefused}
use Rattle.spg_io.specs.declared.sink.IoRefused.TheVariants as refused
use Rattle.spg_opclass.specs.Meaning.{Meaning}
use Rattle.spg_rows.specs.declared.entry.Entry.{Entry}
use Rattle.spg_core.specs.Seen.{Seen}
use Rattle.spg_script.specs.Blocks.{Script}
use Rattle.spg_script.specs.Speech.{Speech}
use Rattle.spg_report.specs.declared.record.Record.{Record}
use Rattle.spg_report.specs.Text.{text}
use Rattle.spg_histories.specs.Tasks.{tasks_of}
use Rattle.spg_histories.specs.Ending.{Writing, all_taken, write_failed, memory_wanting, status_after}
use Rattle.spg_histories.specs.Answer.{Wrote}
use Rattle.spg_histories.specs.Exact.{RunFits}
use Rattle.spg_histories.specs.declared.status.Status.{Status}
use Rattle.spg_loads.specs.Late.{IsLateIn, IsSureIn}
use Rattle.spg_perform.specs.Session.{Outside, Session}
use Rattle.spg_app.specs.declared.end_state.EndState.{EndState}
use Rattle.spg_app.specs.Classes.{class_at, StateOf, state_of}
use Rattle.spg_app.specs.Beginning.{Begins, IsUnbegun, IsLeft, outside}

-- what writing the text met
abbrev pub writing_of : Result Unit IoRefused → Writing
writing_of (Ok done) = all_taken
writing_of (Err refused.Failed) = write_failed
writing_of (Err refused.Memory) = memory_wanting

-- what a sink and images tell before and after
pub record Outlets : Type 0 where
  pub taken : Option (List ℕ)
  pub taken_after : Option (List ℕ)
  pub write_faults : ℕ
  pub write_faults_after : ℕ
  pub images : Outside
  pub images_after : Outside

abbrev pub outlets : Option (List ℕ) → Option (List ℕ) → ℕ → ℕ → Option Holding → Option Holding → ℕ → ℕ → Outlets
outlets taken taken_after f f_after held held_after g g_after = record {
  taken = taken;
  taken_after = taken_after;
  write_faults = f;
  write_faults_after = f_after;
  images = outside held g;
  images_after = outside held_after g_after;
}

-- The commands of the script were done, on a new state of this limit or on that of an image, and led to this one. The sink took the text of the run, or a front of it where it failed or memory was wanting; the status is the first that applies
pub record RanCommands {O Key Recon Cond : Type 0} (m : Meaning Key Recon Cond) (speech : Speech Key Cond) (code limit : ℕ) (from : Option (List ℕ)) (script : Script) (out : Outlets) (status : Status) (seen : Seen O Key Recon Cond) : Type 0 where
  pub loaded : List (Entry Key)
  pub origin : Origin
  pub begun : Begins m code limit from out.images.held loaded origin
  pub records : List Record
  pub session : Session m speech code loaded origin out.images out.images_after (tasks_of script) seen records
  pub writing : Writing
  pub wrote : Wrote writing out.taken out.taken_after (text speech seen.journal records)
  -- numbers of a text that was taken whole fit their types, so it says all of the run
  pub fits : writing ≡ all_taken → RunFits seen.journal records
  pub cause : writing ≡ write_failed → Rose out.write_faults out.write_faults_after
  -- where the whole text was taken no write failed
  pub unfailed : writing ≡ all_taken → out.write_faults_after ≡ out.write_faults
  pub status_is : status ≡ status_after writing records
  -- an insert found the index full, or its clock at its end, only where so many were opened by then that it could be; where fewer were, one of a free row was added or had no memory
  pub late : AllByRecursion (IsLateIn origin seen.journal) records
  pub sure : AllZip (IsSureIn origin seen.journal) (tasks_of script) records

-- the sink took nothing, and the images are as they were
pub record LeftAlone (out : Outlets) : Type 0 where
  pub sink : out.taken_after ≡ out.taken
  pub images : out.images_after ≡ out.images

-- the sink took nothing, and the images were read at most
pub record Unwritten (from : Option (List ℕ)) (out : Outlets) : Type 0 where
  pub sink : out.taken_after ≡ out.taken
  pub images : IsLeft from out.images out.images_after

-- the same of a state handed back: of the class that the script's line names
abbrev pub RanScript : ℕ → Option (List ℕ) → Script → Outlets → Status → StateOf → Type 0
RanScript limit from script out status end = (script.class ≡ end.line) × RanCommands (class_at end.line).meaning (class_at end.line).speech (class_at end.line).code limit from script out status end.seen

-- no state is handed back where the commands did not begin
abbrev pub Ends : ℕ → Option (List ℕ) → Script → Outlets → Status → Option EndState → Type 0
Ends limit from script out status (Some end) = RanScript limit from script out status (state_of end)
Ends limit from script out status None = IsUnbegun (class_at script.class).meaning (class_at script.class).code limit from out.images out.images_after status × Unwritten from out
