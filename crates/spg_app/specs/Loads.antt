-- What is said of `gen`: which script was made and run, and what was written of it.
use Rattle.std.specs.Prelude.{◌≡◌, ◌<◌, ◌≤◌, ◌+◌, ◌++◌, ℕ, Bool, List, [], ◌∷◌, Option, Some, None, count_by, codes}
use Rattle.std.specs.Fmt.{decimal}
use Rattle.std.specs.List.{AllZip, range_with_len}
use Rattle.spg_io.specs.Causes.{Rose}
use Rattle.spg_opclass.specs.Meaning.{Meaning}
use Rattle.spg_opclass.specs.declared.query.Query.{Query}
use Rattle.spg_rows.specs.declared.event.Event.{Event}
use Rattle.spg_bounds.specs.Bounds.{DropsAreLate}
use Rattle.spg_core.specs.Seen.{Seen, past_of}
use Rattle.spg_script.specs.declared.class_name.ClassName.{ClassName}
use Rattle.spg_script.specs.Blocks.{Script}
use Rattle.spg_script.specs.declared.any_query.AnyQuery.{AnyQuery}
use Rattle.spg_script.specs.declared.any_query.AnyQuery.TheVariants.{All}
use Rattle.spg_script.specs.Speech.{Speech, query_in}
use Rattle.spg_script.specs.Generated.{load_row, first_query, second_query, load_class, generated}
use Rattle.spg_report.specs.declared.record.Record.{Record}
use Rattle.spg_report.specs.Text.{ended}
use Rattle.spg_histories.specs.Tasks.{tasks_of}
use Rattle.spg_histories.specs.Ending.{Writing, write_failed, status_after}
use Rattle.spg_histories.specs.Answer.{Wrote}
use Rattle.spg_histories.specs.declared.status.Status.{Status}
use Rattle.spg_histories.specs.declared.status.Status.TheVariants as answer
use Rattle.spg_loads.specs.Loads.{added_count, IsAddedOrFull}
use Rattle.spg_loads.specs.Finds.{is_third, is_kept, is_standing, was_killed}
use Rattle.spg_perform.specs.Session.{Session}
use Rattle.spg_app.specs.declared.end_state.EndState.{EndState}
use Rattle.spg_app.specs.Classes.{class_at, StateOf, state_of}
use Rattle.spg_words.specs.declared.load.Load.{Load}
use Rattle.spg_words.specs.Numbers.{usual_pages}
use Rattle.spg_app.specs.Beginning.{made_with}
use Rattle.spg_app.specs.Ending.{Outlets, LeftAlone}
use Rattle.spg_streams.specs.Summary.{summary}

-- The commands of the script were done on a new state of the usual limit, and led to this one. The sink took the summary of the run, or a front of it where it failed or memory was wanting; the status is the first that applies
pub record RanLoad {O Key Recon Cond : Type 0} (m : Meaning Key Recon Cond) (speech : Speech Key Cond) (code : ℕ) (script : Script) (out : Outlets) (status : Status) (seen : Seen O Key Recon Cond) : Type 0 where
  pub records : List Record
  pub session : Session m speech code [] (made_with usual_pages) out.images out.images_after (tasks_of script) seen records
  pub writing : Writing
  pub wrote : Wrote writing out.taken out.taken_after (summary seen.journal records)
  pub cause : writing ≡ write_failed → Rose out.write_faults out.write_faults_after
  pub status_is : status ≡ status_after writing records
  -- an insert was given up as the index was full only where so many were opened that it could be
  pub late : DropsAreLate seen.origin (past_of seen)

-- the same of a state handed back: of the class that the script's line names
abbrev pub LoadedTo : Script → Outlets → Status → StateOf → Type 0
LoadedTo script out status end = (script.class ≡ end.line) × RanLoad (class_at end.line).meaning (class_at end.line).speech (class_at end.line).code script out status end.seen

-- no state is handed back where memory was wanting before the first command
abbrev pub EndsLoad : Script → Outlets → Status → Option EndState → Type 0
EndsLoad script out status (Some end) = LoadedTo script out status (state_of end)
EndsLoad script out status None = (status ≡ answer.Memory) × LeftAlone out

-- the generated script
abbrev pub script_of : Load → Script
script_of load = generated load.count load.seed load.lanes load.class

-- ---- what came of the rows

-- of how many numbers of a load a query wants the row, where the class has the query
abbrev pub wanted_by : {O Key Recon Cond : Type 0} → (Query O Key Recon Cond → ℕ → Bool) → ℕ → Option (Query O Key Recon Cond) → ℕ
wanted_by wants count None = 0
wanted_by wants count (Some query) = count_by (wants query) (range_with_len 0 count)

-- how many rows are not deleted and match; how many were added and not killed, by their records, and match
abbrev pub kept_count : (O : Type 0) → {Key Recon Cond : Type 0} → Meaning Key Recon Cond → Speech Key Cond → Load → AnyQuery → ℕ
kept_count O m speech load asked = wanted_by {O = O} (is_kept m speech load.class load.seed) load.count (query_in speech asked)

abbrev pub standing_count : (O : Type 0) → {Key Recon Cond : Type 0} → Meaning Key Recon Cond → Speech Key Cond → Load → List Record → AnyQuery → ℕ
standing_count O m speech load records asked = wanted_by {O = O} (is_standing m speech load.class load.seed (tasks_of (script_of load)) records) load.count (query_in speech asked)

-- how many rows were killed, by the records
abbrev pub killed_count : Load → List Record → ℕ
killed_count load records = count_by (λ i. was_killed (load_row i) (tasks_of (script_of load)) records) (range_with_len 0 load.count)

-- five lines: how many rows were added, how many each of the three finds gave, how many were swept
abbrev pub lines_of : ClassName → ℕ → (AnyQuery → ℕ) → ℕ → List (List ℕ)
lines_of name added gave swept =
    (codes "added " ++ decimal added)
    ∷ (codes "live " ++ decimal (gave All))
    ∷ (codes "first " ++ decimal (gave (first_query name)))
    ∷ (codes "second " ++ decimal (gave (second_query name)))
    ∷ (codes "swept " ++ decimal swept)
    ∷ []

-- the summary of a load, counted from its records and keys; and that of one of which each row was added, from its keys alone
abbrev pub rows_summary : (O : Type 0) → {Key Recon Cond : Type 0} → Meaning Key Recon Cond → Speech Key Cond → Load → List Record → List ℕ
rows_summary O m speech load records = ended (lines_of load.class (added_count records) (standing_count O m speech load records) (killed_count load records))

abbrev pub load_summary : (O : Type 0) → {Key Recon Cond : Type 0} → Meaning Key Recon Cond → Speech Key Cond → Load → List ℕ
load_summary O m speech load = ended (lines_of load.class load.count (kept_count O m speech load) (count_by is_third (range_with_len 0 load.count)))

-- Up to 8,191 rows are all added. Of more than that at least 8,192 are, but for one that each lane may have under way; the others found the index full. The summary tells the rows that were added, those that stand and match, and those that were killed; where all were added, it is that of the load
pub record RowsAre {O Key Recon Cond : Type 0} (m : Meaning Key Recon Cond) (speech : Speech Key Cond) (load : Load) (journal : List (Event O Key Recon Cond)) (records : List Record) : Type 0 where
  pub few : load.count ≤ 8191 → added_count records ≡ load.count
  pub many : 8191 < load.count → 8192 ≤ added_count records + load.lanes
  pub others : AllZip IsAddedOrFull (tasks_of (script_of load)) records
  pub stand : summary journal records ≡ rows_summary O m speech load records
  pub all : added_count records ≡ load.count → summary journal records ≡ load_summary O m speech load

-- the generated script of a load was run; with `Done` its rows are so
pub record GenRan {O Key Recon Cond : Type 0} (m : Meaning Key Recon Cond) (speech : Speech Key Cond) (code : ℕ) (load : Load) (out : Outlets) (status : Status) (seen : Seen O Key Recon Cond) : Type 0 where
  pub ran : RanLoad m speech code (script_of load) out status seen
  pub rows : status ≡ answer.Done → RowsAre m speech load seen.journal ran.records

-- the generated script was run, on a state of its class
abbrev pub GenTo : Load → Outlets → Status → StateOf → Type 0
GenTo load out status end = (load_class load.class ≡ end.line) × GenRan (class_at end.line).meaning (class_at end.line).speech (class_at end.line).code load out status end.seen

abbrev pub EndsGen : Load → Outlets → Status → EndState → Type 0
EndsGen load out status end = GenTo load out status (state_of end)

-- what is said of a load
abbrev pub IsGen : Load → Outlets → Status → Option EndState → Type 0
IsGen load out status (Some end) = EndsGen load out status end
IsGen load out status None = (status ≡ answer.Memory) × LeftAlone out
