-- The printed text determines the run.
use Rattle.std.specs.Prelude.{◌≡◌, ◌<◌, ◌+◌, ◌^◌, ℕ, true, List, length, Option, Some}
use Rattle.std.specs.List.{AllByRecursion}
use Rattle.spg_rows.specs.declared.event.Event.{Event}
use Rattle.spg_rows.specs.History.{seat_of}
use Rattle.spg_script.specs.declared.any_key.AnyKey.{AnyKey}
use Rattle.spg_script.specs.declared.key_form.KeyForm.{KeyForm}
use Rattle.spg_script.specs.Speech.{Speech, SpeaksAsPrinted, key_or_null_in}
use Rattle.spg_script.specs.Laws.{IsCommand, IsKeyOrNull}
use Rattle.spg_report.specs.declared.record.Record.{Record}
use Rattle.spg_report.specs.Text.{text}
use Rattle.spg_report.specs.Told.{Fits, FitsRecord}
use Rattle.spg_radix.specs.Texts.{is_bytes}
use Rattle.spg_script.specs.Blocks.{Script}
use Rattle.spg_script.specs.Line.{keys_of}
use Rattle.spg_script.specs.Script.{IsScript}
use Rattle.spg_histories.specs.Tasks.{Task, tasks_of}
use Rattle.spg_histories.specs.Run.{Entry, RunOf}

-- the numbers of an event fit their types
pub record FitsTypes {O Key Recon Cond : Type 0} (e : Event O Key Recon Cond) : Type 0 where
  pub seat : seat_of e < 2 ^ 64
  pub fits : Fits e

-- the numbers of a run fit their types
pub record RunFits {O Key Recon Cond : Type 0} (journal : List (Event O Key Recon Cond)) (records : List Record) : Type 0 where
  pub short : length journal < 2 ^ 64
  pub few : 1 + length records < 2 ^ 64
  pub events : AllByRecursion FitsTypes journal
  pub records_fit : AllByRecursion FitsRecord records

-- scripts of the class name the key
abbrev pub IsNamedEntry : {Key Cond : Type 0} → KeyForm → Speech Key Cond → Entry Key → Type 0
IsNamedEntry keys speech e = (named : Option AnyKey) × (key_or_null_in speech named ≡ Some e.key) × IsKeyOrNull keys named

-- two runs of one script over one loaded image that print alike are equal
abbrev pub TextSaysAll : (O Key Recon Cond : Type 0) → Type 0
TextSaysAll O Key Recon Cond = (keys : KeyForm) (speech : Speech Key Cond) → SpeaksAsPrinted speech → (loaded : List (Entry Key)) (tasks : List Task)
    → AllByRecursion (IsNamedEntry keys speech) loaded → AllByRecursion (λ t. IsCommand keys t.command) tasks
    → (journal journal2 : List (Event O Key Recon Cond)) (records records2 : List Record) → RunFits journal records → RunFits journal2 records2
    → RunOf speech loaded tasks journal records → RunOf speech loaded tasks journal2 records2
    → text speech journal records ≡ text speech journal2 records2 → (journal ≡ journal2) × (records ≡ records2)

-- the same for a script of bytes
abbrev pub ScriptSaysAll : (O Key Recon Cond : Type 0) → Type 0
ScriptSaysAll O Key Recon Cond = (speech : Speech Key Cond) → SpeaksAsPrinted speech → (bytes : List ℕ) (script : Script) → is_bytes bytes ≡ true → IsScript bytes script
    → (loaded : List (Entry Key)) → AllByRecursion (IsNamedEntry (keys_of script.class) speech) loaded
    → (journal journal2 : List (Event O Key Recon Cond)) (records records2 : List Record) → RunFits journal records → RunFits journal2 records2
    → RunOf speech loaded (tasks_of script) journal records → RunOf speech loaded (tasks_of script) journal2 records2
    → text speech journal records ≡ text speech journal2 records2 → (journal ≡ journal2) × (records ≡ records2)
