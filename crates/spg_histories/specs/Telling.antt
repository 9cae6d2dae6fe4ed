-- What finds, counts and saves outside lanes tell of pages.
use Rattle.std.specs.Prelude.{◌≡◌, ◌++◌, ℕ, Bool, true, false, ◌&&◌, bytes_eq, List, [], ◌∷◌, length, Option, Some, ⊤}
use Rattle.std.specs.List.{AllZip, AllByRecursion}
use Rattle.spg_opclass.specs.Meaning.{Meaning}
use Rattle.spg_forest.specs.Sheets.{Sheets}
use Rattle.spg_rows.specs.declared.event.Event.{Event}
use Rattle.spg_script.specs.declared.command.Command.{Command}
use Rattle.spg_script.specs.declared.command.Command.TheVariants as asked
use Rattle.spg_script.specs.Speech.{Speech}
use Rattle.spg_script.specs.Script.{IsLaneCommand}
use Rattle.spg_report.specs.declared.outcome.Outcome.{Outcome}
use Rattle.spg_report.specs.declared.outcome.Outcome.TheVariants as outcome
use Rattle.spg_report.specs.declared.record.Record.{Record}
use Rattle.spg_histories.specs.Tasks.{Task}
use Rattle.spg_histories.specs.Run.{Entry, Did, RunOf}
use Rattle.spg_histories.specs.Nearest.{TellsNear}
use Rattle.spg_histories.specs.Pages.{IsCount, TellsWalk, HoldsAt, present_at}

-- a command that was done
pub record Step : Type 0 where
  pub task : Task
  pub done : Record

-- the steps of a run, the newest first
abbrev pub steps_onto : List Step → List Task → List Record → List Step
steps_onto past [] records = past
steps_onto past (t ∷ tasks) [] = past
steps_onto past (t ∷ tasks) (r ∷ records) = steps_onto (record { task = t; done = r } ∷ past) tasks records

abbrev pub steps_of : List Task → List Record → List Step
steps_of tasks records = steps_onto [] tasks records

-- a find, a search for the nearest rows, a count or a save changes no page
abbrev pub is_quiet_command : Command → Bool
is_quiet_command (asked.Find query) = true
is_quiet_command (asked.Save name) = true
is_quiet_command asked.Stat = true
is_quiet_command (asked.Near target limit) = true
is_quiet_command c = false

-- a quiet command outside lanes
abbrev pub is_quiet : Step → Bool
is_quiet x = x.task.alone && is_quiet_command x.task.command

abbrev pub IsQuiet : Step → Type 0
IsQuiet x = is_quiet x ≡ true

-- a save under this name
abbrev pub is_save : List ℕ → Command → Bool
is_save name (asked.Save other) = bytes_eq other name
is_save name c = false

-- the first where the test is true, else the second
abbrev pub WhereTrue : Bool → Type 0 → Type 0 → Type 0
WhereTrue true A B = A
WhereTrue false A B = B

-- a count tells as leaf tuples the rows that are present
abbrev pub LeafIs : ℕ → Outcome → Type 0
LeafIs present (outcome.Stat counts) = counts.leaf ≡ present
LeafIs present o = ⊤

module _ {Key Recon Cond : Type 0} (O : Type 0) (m : Meaning Key Recon Cond) (speech : Speech Key Cond) where
  -- what a record tells is true of the pages: a find tells the walk of its query, a search for the nearest rows the tuples within its last distance, a save the number of pages, a count the counts
  abbrev pub TellsOf : Sheets → Command → Outcome → Type 0
  TellsOf g c (outcome.Found rows walk) = TellsWalk O m speech g walk c
  TellsOf g c (outcome.Saved pages) = length g.sheets ≡ pages
  TellsOf g c (outcome.Stat counts) = IsCount g counts
  TellsOf g c (outcome.Near rows walk) = TellsNear m speech g rows walk c
  TellsOf g c o = ⊤

  abbrev pub Tells : Sheets → Step → Type 0
  Tells g x = TellsOf g x.task.command x.done.outcome

  -- each step, as far as all are quiet, tells of these pages
  abbrev pub AsFar : Sheets → List Step → Type 0
  AsFar g [] = ⊤
  AsFar g (x ∷ steps) = IsQuiet x → Tells g x × AsFar g steps

  -- The image of a save that answered `saved`, with the steps after it, the oldest first, and those before it, the newest first; `now` is the pages at the end. It has so many
  -- pages, which hold just the rows that were present then, and each telling command with only quiet ones between them tells of it. Where only quiet commands follow, it is the pages at the end.
  pub record IsKept (now g : Sheets) (holds : Sheets → ℕ → Type 0) (pages at : ℕ) (later past : List Step) : Type 0 where
    pub blocks : length g.sheets ≡ pages
    pub rows : holds g at
    pub after : AsFar g later
    pub before : AsFar g past
    pub end : AllByRecursion IsQuiet later → g ≡ now

  -- what the images give under a name, and the pages that it reads as
  module _ {B : Type 0} (reads : B → Sheets → Type 0) where
    abbrev pub OnSaved : Sheets → B → (Sheets → ℕ → Type 0) → ℕ → List Step → List Step → Outcome → Type 0
    OnSaved now given holds at later past (outcome.Saved pages) = (g : Sheets) × reads given g × IsKept now g holds pages at later past
    OnSaved now given holds at later past o = ⊤

    -- what is given under a name at the end: after its last save the image of that save, where it answered `saved`; without a save what was there
    abbrev pub IsGiven : Sheets → B → B → (Sheets → ℕ → Type 0) → List ℕ → List Step → List Step → Type 0
    IsGiven now given was holds name later [] = given ≡ was
    IsGiven now given was holds name later (x ∷ past) =
        WhereTrue (is_save name x.task.command) (OnSaved now given holds x.done.span.from later past x.done.outcome) (IsGiven now given was holds name (x ∷ later) past)

    -- what the steps of a run tell of the pages now and of the images, where pages hold rows at a position, and so many are present there
    pub record TellsAll (holds : Sheets → ℕ → Type 0) (present : ℕ → ℕ) (was given : List ℕ → B) (now : Sheets) (steps : List Step) : Type 0 where
      pub end : AsFar now steps
      pub saves : (name : List ℕ) → IsGiven now (given name) (was name) holds name [] steps
      pub leaves : AllByRecursion (λ x. LeafIs (present x.done.span.from) x.done.outcome) steps

    -- the same, by a journal
    abbrev pub TellAll : List (Event O Key Recon Cond) → (was given : List ℕ → B) → Sheets → List Task → List Record → Type 0
    TellAll journal was given now tasks records = TellsAll (HoldsAt m journal) (present_at journal) was given now (steps_of tasks records)

    -- a save gave the pages now under the name, where it answered `saved`
    abbrev pub SaveGave : (Sheets → ℕ → Type 0) → Sheets → ℕ → B → Outcome → Type 0
    SaveGave holds now at given (outcome.Saved pages) = reads given now × (length now.sheets ≡ pages) × holds now at
    SaveGave holds now at given o = ⊤

    -- one command did this to pages and images
    pub record StepDoes (holds : Sheets → ℕ → Type 0) (present : ℕ → ℕ) (given given2 : List ℕ → B) (now now2 : Sheets) (x : Step) : Type 0 where
      pub quiet : IsQuiet x → (now2 ≡ now) × Tells now x
      pub saved : (name : List ℕ) → is_save name x.task.command ≡ true → IsQuiet x × SaveGave holds now x.done.span.from (given2 name) x.done.outcome
      pub kept : (name : List ℕ) → is_save name x.task.command ≡ false → given2 name ≡ given name
      pub leaf : LeafIs (present x.done.span.from) x.done.outcome

    abbrev pub StepDone : List (Event O Key Recon Cond) → (given given2 : List ℕ → B) → (now now2 : Sheets) → Task → Record → Type 0
    StepDone journal given given2 now now2 t r = StepDoes (HoldsAt m journal) (present_at journal) given given2 now now2 (record { task = t; done = r })

-- commands of lanes
abbrev pub AreOfLanes : List Task → Type 0
AreOfLanes tasks = AllByRecursion (λ (t : Task). (t.alone ≡ false) × IsLaneCommand t.command) tasks

-- what is given reads as these pages
abbrev pub ReadsAs : {B : Type 0} → (B → Option Sheets) → B → Sheets → Type 0
ReadsAs read given g = read given ≡ Some g

-- what a run tells goes on by one more command, and by lanes, whose commands may change the pages to any others
pub record RunsTell (O Key Recon Cond B : Type 0) : Type 0 where
  pub begins : (m : Meaning Key Recon Cond) (speech : Speech Key Cond) (read : B → Option Sheets) (journal : List (Event O Key Recon Cond)) (was : List ℕ → B) (now : Sheets) → TellAll O m speech (ReadsAs read) journal was was now [] []
  pub goes_on : (m : Meaning Key Recon Cond) (speech : Speech Key Cond) (read : B → Option Sheets) (loaded : List (Entry Key)) (old more : List (Event O Key Recon Cond)) (tasks : List Task) (records : List Record) (was given given2 : List ℕ → B) (now now2 : Sheets) (t : Task) (r : Record)
      → RunOf speech loaded tasks old records → TellAll O m speech (ReadsAs read) old was given now tasks records → StepDone O m speech (ReadsAs read) (old ++ more) given given2 now now2 t r
      → TellAll O m speech (ReadsAs read) (old ++ more) was given2 now2 (tasks ++ t ∷ []) (records ++ r ∷ [])
  pub lanes : (m : Meaning Key Recon Cond) (speech : Speech Key Cond) (read : B → Option Sheets) (loaded : List (Entry Key)) (old more : List (Event O Key Recon Cond)) (tasks block : List Task) (records added : List Record) (was given : List ℕ → B) (now now2 : Sheets)
      → RunOf speech loaded tasks old records → TellAll O m speech (ReadsAs read) old was given now tasks records → AreOfLanes block → AllZip (Did speech (old ++ more)) block added → (block ≡ [] → now2 ≡ now)
      → TellAll O m speech (ReadsAs read) (old ++ more) was given now2 (tasks ++ block) (records ++ added)
