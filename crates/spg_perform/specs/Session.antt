-- What the commands of a script have done so far.
use Rattle.std.specs.Prelude.{◌≡◌, ◌≤◌, ◌+◌, ◌-◌, ◌^◌, ◌++◌, ℕ, min, List, [], ◌∷◌, Option, Some, None, option_map, ⊤}
use Rattle.spg_base.specs.declared.recorded.Origin.{Origin}
use Rattle.spg_opclass.specs.Meaning.{Meaning}
use Rattle.spg_io.specs.Held.{Holding}
use Rattle.spg_rows.specs.Right.{Right}
use Rattle.spg_tree.specs.Table.{sheets_of}
use Rattle.spg_core.specs.Seen.{Seen, past_of}
use Rattle.spg_script.specs.Blocks.{Script}
use Rattle.spg_script.specs.Speech.{Speech}
use Rattle.spg_report.specs.declared.outcome.Outcome.{Outcome}
use Rattle.spg_report.specs.declared.outcome.Outcome.TheVariants as outcome
use Rattle.spg_report.specs.declared.record.Record.{Record}
pub use Rattle.spg_commands.specs.Known.{IsOfClass}
pub use Rattle.spg_whole.specs.Calls.{AllClosed}
use Rattle.spg_histories.specs.Tasks.{Task, tasks_of}
use Rattle.spg_histories.specs.Run.{Entry, load_events, RunOf}
use Rattle.spg_histories.specs.Pages.{HoldsAt}
use Rattle.spg_histories.specs.Telling.{steps_of, TellAll}
use Rattle.spg_histories.specs.Causes.{Causes}
pub use Rattle.spg_perform.specs.Remains.{ReadsBack}
use Rattle.spg_perform.specs.Remains.{Remains, AllCounted}

-- ---- images

-- images outside: the bytes under each name, where they tell them, and how often a call failed
pub record Outside : Type 0 where
  pub held : Option Holding
  pub faults : ℕ

-- what is told under a name by images that told it at the start
abbrev pub told_of : Option Holding → Option Holding → List ℕ → Option (Option (List ℕ))
told_of None now name = None
told_of (Some start) now name = option_map (λ (held : Holding). held name) now

-- images that tell their bytes go on to do so
abbrev pub StillTell : Option Holding → Option Holding → Type 0
StillTell None now = ⊤
StillTell (Some start) None = ⊥
StillTell (Some start) (Some now) = ⊤

abbrev pub is_image_fault : Outcome → ℕ
is_image_fault outcome.ImageFault = 1
is_image_fault o = 0

-- how many records say `image fault`
abbrev pub image_faults : List Record → ℕ
image_faults [] = 0
image_faults (r ∷ records) = is_image_fault r.outcome + image_faults records

-- the count of faults does not fall, and rose by that number at least, or stands at its type's end
abbrev pub RoseBy : ℕ → ℕ → ℕ → Type 0
RoseBy n before now = (before ≤ now) × (min (before + n) (2 ^ 64 - 1) ≤ now)

-- the count of faults stays where an outcome is no image fault
abbrev pub StaysUnless : Outcome → ℕ → ℕ → Type 0
StaysUnless outcome.ImageFault before now = ⊤
StaysUnless o before now = now ≡ before

-- ---- a run as far as it has come

-- These commands were done, from a journal with the events of these entries, a state of this origin and images outside, and led to a state and to images, with these records
pub record Session {O Key Recon Cond : Type 0} (m : Meaning Key Recon Cond) (speech : Speech Key Cond) (code : ℕ) (loaded : List (Entry Key)) (origin : Origin) (start now : Outside) (tasks : List Task) (seen : Seen O Key Recon Cond) (records : List Record) : Type 0 where
  pub run : RunOf speech loaded tasks seen.journal records
  pub right : Right m seen.journal
  pub causes : Causes m origin (sheets_of seen.table) seen.journal tasks records
  pub tells : TellAll O m speech (ReadsBack code) seen.journal (told_of start.held start.held) (told_of start.held now.held) (sheets_of seen.table) tasks records
  pub remains : (name : List ℕ) → Remains code (HoldsAt m seen.journal) (told_of start.held now.held name) (told_of start.held start.held name) name (steps_of tasks records)
  pub counted : AllCounted (steps_of tasks records)
  pub closed : AllClosed (past_of seen)
  pub made : seen.origin ≡ origin
  pub images : StillTell start.held now.held
  pub faults : RoseBy (image_faults records) start.faults now.faults
  -- where no record says `image fault` no call on the images failed
  pub unfailed : image_faults records ≡ 0 → now.faults ≡ start.faults

-- a state, images outside, and the records of the commands so far
pub record Standing (O Key Recon Cond : Type 0) : Type 0 where
  pub seen : Seen O Key Recon Cond
  pub outside : Outside
  pub records : List Record

abbrev pub standing : {O Key Recon Cond : Type 0} → Seen O Key Recon Cond → Option Holding → ℕ → List Record → Standing O Key Recon Cond
standing seen held faults records = record { seen = seen; outside = record { held = held; faults = faults }; records = records }

-- whatever commands had led to where it stood, these lead on
abbrev pub LeadsOn : {O Key Recon Cond : Type 0} → Meaning Key Recon Cond → Speech Key Cond → ℕ → Standing O Key Recon Cond → Standing O Key Recon Cond → List Task → Type 0
LeadsOn {O} {Key} {Recon} {Cond} m speech code old new more = (loaded : List (Entry Key)) (origin : Origin) (start : Outside) (tasks : List Task)
    → Session m speech code loaded origin start old.outside tasks old.seen old.records → Session m speech code loaded origin start new.outside (tasks ++ more) new.seen new.records

-- the commands of a script were done: where the journal was that of a load, the whole is a run of the script over the entries that were loaded
abbrev pub Performs : {O Key Recon Cond : Type 0} → Meaning Key Recon Cond → Speech Key Cond → ℕ → Script → Standing O Key Recon Cond → Standing O Key Recon Cond → Type 0
Performs {O} {Key} {Recon} {Cond} m speech code script old new = (loaded : List (Entry Key)) → old.seen.journal ≡ load_events loaded
    → Session m speech code loaded old.seen.origin old.outside new.outside (tasks_of script) new.seen new.records
