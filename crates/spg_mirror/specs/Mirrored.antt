-- What commands do on an index whose searches a standby answers: a primary takes the writes, and a standby follows it.
use Rattle.std.specs.Prelude.{◌≡◌, ◌≢◌, ◌<◌, ◌≤◌, ◌+◌, ◌⊎◌, ◌++◌, ℕ, Bool, true, false, not, if◌then◌else◌, List, [], ◌∷◌, length, take, Option, Some, None, ⊤}
use Rattle.std.specs.List.{AllZip}
use Rattle.spg_base.specs.Row.{RowAt}
use Rattle.spg_base.specs.declared.names.Span.{Span}
use Rattle.spg_base.specs.declared.recorded.Origin.{Origin}
use Rattle.spg_opclass.specs.Meaning.{Meaning}
use Rattle.spg_opclass.specs.declared.query.Query.{Query}
use Rattle.spg_tree.specs.Table.{sheets_of}
use Rattle.spg_rows.specs.declared.event.Event.{Event}
use Rattle.spg_rows.specs.Right.{Right, ScanRight}
use Rattle.spg_calls.specs.Calls.{past_at}
use Rattle.spg_core.specs.Seen.{Seen, past_of}
use Rattle.spg_whole.specs.Calls.{AllClosed}
use Rattle.spg_script.specs.declared.any_query.AnyQuery.{AnyQuery}
use Rattle.spg_script.specs.declared.command.Command.{Command}
use Rattle.spg_script.specs.declared.command.Command.TheVariants as asked
use Rattle.spg_script.specs.Speech.{Speech, query_in}
use Rattle.spg_report.specs.declared.outcome.Outcome.{Outcome}
use Rattle.spg_report.specs.declared.outcome.Outcome.TheVariants as outcome
use Rattle.spg_report.specs.declared.record.Record.{Record}
use Rattle.spg_histories.specs.Tasks.{Task}
use Rattle.spg_histories.specs.Run.{RunOf}
use Rattle.spg_histories.specs.Causes.{Causes}
use Rattle.spg_histories.specs.Ending.{is_memory}
use Rattle.spg_commands.specs.Acted.{task_of, Acts}
use Rattle.spg_standby.specs.Finding.{IsBehind}
use Rattle.spg_standby.specs.Twin.{Twin}

-- ---- the writes

abbrev pub is_find : Command → Bool
is_find (asked.Insert row key) = false
is_find (asked.Delete row) = false
is_find (asked.Find query) = true
is_find asked.Vacuum = false
is_find (asked.Save name) = false
is_find asked.Stat = false
is_find (asked.Near target limit) = false

-- commands outside lanes, each of which is a block, from this number on
abbrev pub commands_tasks : ℕ → List Command → List Task
commands_tasks block [] = []
commands_tasks block (c ∷ commands) = task_of block 0 true c ∷ commands_tasks (block + 1) commands

abbrev pub unless_find : {X : Type 0} → Command → X → List X
unless_find c x = if is_find c then [] else x ∷ []

-- the writes among commands, and their records
abbrev pub writes_in : List Task → List Task
writes_in [] = []
writes_in (t ∷ tasks) = unless_find t.command t ++ writes_in tasks

abbrev pub write_records : List Task → List Record → List Record
write_records [] records = []
write_records (t ∷ tasks) [] = []
write_records (t ∷ tasks) (r ∷ records) = unless_find t.command r ++ write_records tasks records

-- the record of a write tells what came of it, or `memory`: the standby then found none to follow
pub record IsToldAs (came r : Record) : Type 0 where
  pub span : r.span ≡ came.span
  pub outcome : (r.outcome ≡ came.outcome) ⊎ (r.outcome ≡ outcome.Memory)

-- ---- the finds

-- A find of the standby that was done when the primary had `at` events: its rows are a right answer by the primary's journal, from the events that were applied when it began
-- to those applied at its end. Where the standby has kept up, it had so many events that are no sweeps still to come at most, and none where it may be no record behind
pub record IsFound {O Key Recon Cond : Type 0} (m : Meaning Key Recon Cond) (speech : Speech Key Cond) (lag : ℕ) (journal : List (Event O Key Recon Cond)) (at : ℕ) (kept_up : Bool) (query : AnyQuery) (span : Span) (rows : List RowAt) (walk : Option ℕ) : Type 0 where
  pub asked : Query O Key Recon Cond
  pub named : query_in speech query ≡ Some asked
  pub right : ScanRight m (past_at span.from journal) (past_at span.to journal) asked rows
  pub order : span.from ≤ span.to
  pub before : span.to ≤ at
  pub within : at ≤ length journal
  pub behind : kept_up ≡ true → IsBehind (take at journal) span.from lag
  pub untold : walk ≡ None

-- a find that was given up: so many events were applied before and behind it, and so far behind the primary the standby was
pub record IsGivenUp {O Key Recon Cond : Type 0} (lag : ℕ) (journal : List (Event O Key Recon Cond)) (at : ℕ) (kept_up : Bool) (span : Span) : Type 0 where
  pub order : span.from ≤ span.to
  pub before : span.to ≤ at
  pub within : at ≤ length journal
  pub behind : kept_up ≡ true → IsBehind (take at journal) span.from lag

module _ {O Key Recon Cond : Type 0} (m : Meaning Key Recon Cond) (speech : Speech Key Cond) (lag : ℕ) (journal : List (Event O Key Recon Cond)) where
  -- rows were found, or memory was wanting; so far had the standby come before and behind
  abbrev pub FindsBy : ℕ → Bool → AnyQuery → Span → Outcome → Type 0
  FindsBy at kept_up query span (outcome.Found rows walk) = IsFound m speech lag journal at kept_up query span rows walk
  FindsBy at kept_up query span outcome.Memory = IsGivenUp lag journal at kept_up span
  FindsBy at kept_up query span o = ⊥

  abbrev pub IsAnswered : ℕ → Bool → Command → Record → Type 0
  IsAnswered at kept_up (asked.Find query) r = FindsBy at kept_up query r.span r.outcome
  IsAnswered at kept_up c r = ⊤

  -- each find is answered, from a length of the journal on: a write ends at the next, and the standby has kept up with a write that did not answer `memory`
  abbrev pub AreAnswered : ℕ → Bool → List Task → List Record → Type 0
  AreAnswered at kept_up [] [] = ⊤
  AreAnswered at kept_up [] (r ∷ records) = ⊥
  AreAnswered at kept_up (t ∷ tasks) [] = ⊥
  AreAnswered at kept_up (t ∷ tasks) (r ∷ records) =
      IsAnswered at kept_up t.command r × AreAnswered (if is_find t.command then at else r.span.to) (if is_find t.command then kept_up else not (is_memory r.outcome)) tasks records

-- ---- a run

-- with what a new state of this limit is made
abbrev pub made_with : ℕ → Origin
made_with limit = record { limit = limit; pages = 3; clock = 0; loaded = false }

-- The commands were done on a new index of this limit and its standby, so many records behind at most, and led to this state of the primary, with these records. Its journal and what came
-- of the writes are a run of the writes, with their causes; each find is answered
pub record Mirrored {O Key Recon Cond : Type 0} (m : Meaning Key Recon Cond) (speech : Speech Key Cond) (limit lag : ℕ) (tasks : List Task) (seen : Seen O Key Recon Cond) (records : List Record) : Type 0 where
  pub came : List Record
  pub told : AllZip IsToldAs came (write_records tasks records)
  pub run : RunOf speech [] (writes_in tasks) seen.journal came
  pub causes : Causes m (made_with limit) (sheets_of seen.table) seen.journal (writes_in tasks) came
  pub finds : AreAnswered m speech lag seen.journal 0 true tasks records
  pub right : Right m seen.journal
  pub closed : AllClosed (past_of seen)
  pub made : seen.origin ≡ made_with limit

-- ---- one command

-- a write of a pair: what came of it, and what its record tells: that where the standby has kept up, and else `memory`
pub record Writes {O Key Recon Cond : Type 0} (m : Meaning Key Recon Cond) (speech : Speech Key Cond) (old new : Twin O Key Recon Cond) (c : Command) (r : Record) : Type 0 where
  pub came : Record
  pub told : IsToldAs came r
  pub acts : Acts m speech old.primary new.primary 0 true c came
  pub kept_up : r.outcome ≢ outcome.Memory → length new.queue ≤ new.lag
  pub left_behind : r.outcome ≢ came.outcome → new.lag < length new.queue
  pub lag : new.lag ≡ old.lag
  pub right : Right m new.primary.journal
  pub closed : AllClosed (past_of new.primary)

-- a find of a pair: the primary is as it was, and no record more is queued
pub record Searches {O Key Recon Cond : Type 0} (m : Meaning Key Recon Cond) (speech : Speech Key Cond) (old new : Twin O Key Recon Cond) (query : AnyQuery) (r : Record) : Type 0 where
  pub found : FindsBy m speech (length old.queue) old.primary.journal (length old.primary.journal) true query r.span r.outcome
  pub primary : new.primary ≡ old.primary
  pub queued : length new.queue ≤ length old.queue
  pub lag : new.lag ≡ old.lag

abbrev pub DoesOn : {O Key Recon Cond : Type 0} → Meaning Key Recon Cond → Speech Key Cond → Twin O Key Recon Cond → Twin O Key Recon Cond → Command → Record → Type 0
DoesOn m speech old new (asked.Insert row key) r = Writes m speech old new (asked.Insert row key) r
DoesOn m speech old new (asked.Delete row) r = Writes m speech old new (asked.Delete row) r
DoesOn m speech old new (asked.Find query) r = Searches m speech old new query r
DoesOn m speech old new asked.Vacuum r = Writes m speech old new asked.Vacuum r
DoesOn m speech old new (asked.Save name) r = ⊥
DoesOn m speech old new asked.Stat r = ⊥
DoesOn m speech old new (asked.Near target limit) r = ⊥

-- ---- a run so far

-- where the next command stands, and whether the standby has kept up
abbrev pub at_behind : ℕ → List Task → List Record → ℕ
at_behind at [] records = at
at_behind at (t ∷ tasks) [] = at
at_behind at (t ∷ tasks) (r ∷ records) = at_behind (if is_find t.command then at else r.span.to) tasks records

abbrev pub kept_behind : Bool → List Task → List Record → Bool
kept_behind kept_up [] records = kept_up
kept_behind kept_up (t ∷ tasks) [] = kept_up
kept_behind kept_up (t ∷ tasks) (r ∷ records) = kept_behind (if is_find t.command then kept_up else not (is_memory r.outcome)) tasks records

pub record SoFar {O Key Recon Cond : Type 0} (m : Meaning Key Recon Cond) (speech : Speech Key Cond) (limit lag : ℕ) (tasks : List Task) (p : Twin O Key Recon Cond) (records : List Record) : Type 0 where
  pub mirrored : Mirrored m speech limit lag tasks p.primary records
  pub count : length records ≡ length tasks
  pub at : at_behind 0 tasks records ≡ length p.primary.journal
  pub lag_is : p.lag ≡ lag
  pub queued : kept_behind true tasks records ≡ true → length p.queue ≤ lag

-- where nothing was done before, these commands lead to where the pair is then
abbrev pub LeadsTo : {O Key Recon Cond : Type 0} → Meaning Key Recon Cond → Speech Key Cond → Twin O Key Recon Cond → List Record → Twin O Key Recon Cond → List Record → List Task → Type 0
LeadsTo m speech old none new records tasks = (limit lag : ℕ) → SoFar m speech limit lag [] old none → SoFar m speech limit lag tasks new records
