-- What a block of lanes, or one command outside lanes, adds to a run.
use Rattle.std.specs.Prelude.{◌≡◌, ◌<◌, ◌≤◌, ◌+◌, ◌-◌, ◌++◌, ℕ, Bool, List, [], ◌∷◌, length, drop, reverse, ⊤}
use Rattle.std.specs.List.{AllZip, AllByRecursion}
use Rattle.spg_rows.specs.declared.event.Event.{Event}
use Rattle.spg_rows.specs.History.{seat_of, own}
use Rattle.spg_script.specs.declared.command.Command.{Command}
use Rattle.spg_script.specs.Speech.{Speech}
use Rattle.spg_report.specs.declared.record.Record.{Record}
use Rattle.spg_report.specs.declared.outcome.Outcome.TheVariants.{Memory}
use Rattle.spg_histories.specs.Tasks.{Task, lane_tasks, lanes_tasks}
use Rattle.spg_histories.specs.Run.{Does, Did, AreInOrder, IsWithin, IsOwned, IsBySeat, past_at, between, Entry, load_events, RunOf}

-- the records of the lanes of a block, one lane after another
abbrev pub joined : {X : Type 0} → List (List X) → List X
joined [] = []
joined (xs ∷ more) = xs ++ joined more

-- these commands led from a journal to another
pub record BlockOf {O Key Recon Cond : Type 0} (speech : Speech Key Cond) (old new : List (Event O Key Recon Cond)) (tasks : List Task) (records : List Record) : Type 0 where
  pub events : List (Event O Key Recon Cond)
  pub journal : new ≡ old ++ events
  pub each : AllZip (Did speech new) tasks records
  pub in_order : AreInOrder tasks records
  pub within : AllByRecursion (IsWithin (length old) (length new)) records
  pub covered : (at : ℕ) → length old ≤ at → at < length new → IsOwned new at tasks records

-- one command of a seat that alone added events
pub record Performed {O Key Recon Cond : Type 0} (speech : Speech Key Cond) (old new : List (Event O Key Recon Cond)) (t : Task) (r : Record) : Type 0 where
  pub events : List (Event O Key Recon Cond)
  pub journal : new ≡ old ++ events
  pub by_seat : AllByRecursion (λ e. seat_of e ≡ t.seat) events
  pub from : r.span.from ≡ length old
  pub to : r.span.to ≡ length new
  pub does : Does speech t (reverse old) events r.outcome

-- the commands of a lane have these records: each after the one before
abbrev pub Spans : {O Key Recon Cond : Type 0} → Speech Key Cond → List (Event O Key Recon Cond) → ℕ → List Task → List Record → Type 0
Spans speech journal low [] [] = low ≤ length journal
Spans speech journal low [] (r ∷ records) = ⊥
Spans speech journal low (t ∷ tasks) [] = ⊥
Spans speech journal low (t ∷ tasks) (r ∷ records) = (low ≤ r.span.from) × (r.span.from ≤ r.span.to) × Did speech journal t r × Spans speech journal r.span.to tasks records

-- the events of a seat in the spans of its records
abbrev pub spanned : {O Key Recon Cond : Type 0} → ℕ → List (Event O Key Recon Cond) → List Record → List (Event O Key Recon Cond)
spanned seat journal [] = []
spanned seat journal (r ∷ records) = own seat (between r.span.from r.span.to journal) ++ spanned seat journal records

-- a lane ran, from a length of the journal on, and all events of its seat are its commands'
pub record LaneRan {O Key Recon Cond : Type 0} (speech : Speech Key Cond) (low : ℕ) (journal : List (Event O Key Recon Cond)) (seat : ℕ) (tasks : List Task) (records : List Record) : Type 0 where
  pub spans : Spans speech journal low tasks records
  pub whole : own seat (drop low journal) ≡ spanned seat journal records

-- the same as a desk tells it: the events of each command in its span, and all events of the seat, in order
pub record Told {O Key Recon Cond : Type 0} (speech : Speech Key Cond) (journal : List (Event O Key Recon Cond)) (t : Task) (r : Record) (events : List (Event O Key Recon Cond)) : Type 0 where
  pub own : own t.seat (between r.span.from r.span.to journal) ≡ events
  pub does : Does speech t (past_at r.span.from journal) events r.outcome
  pub first : r.span.from < r.span.to → IsBySeat t.seat journal r.span.from
  pub last : r.span.from < r.span.to → IsBySeat t.seat journal (r.span.to - 1)

abbrev pub SpansTold : {O Key Recon Cond : Type 0} → Speech Key Cond → List (Event O Key Recon Cond) → ℕ → List Task → List Record → List (List (Event O Key Recon Cond)) → Type 0
SpansTold speech journal low [] [] [] = low ≤ length journal
SpansTold speech journal low [] [] (es ∷ more) = ⊥
SpansTold speech journal low [] (r ∷ records) more = ⊥
SpansTold speech journal low (t ∷ tasks) [] more = ⊥
SpansTold speech journal low (t ∷ tasks) (r ∷ records) [] = ⊥
SpansTold speech journal low (t ∷ tasks) (r ∷ records) (es ∷ more) = (low ≤ r.span.from) × (r.span.from ≤ r.span.to) × Told speech journal t r es × SpansTold speech journal r.span.to tasks records more

-- the lanes of a block ran, the first with this seat; no other seat from here on did anything
abbrev pub LanesRan : {O Key Recon Cond : Type 0} → Speech Key Cond → ℕ → List (Event O Key Recon Cond) → ℕ → ℕ → Bool → List (List Command) → List (List Record) → Type 0
LanesRan speech low journal block seat alone [] [] = (other : ℕ) → seat ≤ other → own other (drop low journal) ≡ []
LanesRan speech low journal block seat alone [] (records ∷ groups) = ⊥
LanesRan speech low journal block seat alone (lane ∷ lanes) [] = ⊥
LanesRan speech low journal block seat alone (lane ∷ lanes) (records ∷ groups) = LaneRan speech low journal seat (lane_tasks block seat alone lane) records × LanesRan speech low journal block (seat + 1) alone lanes groups

-- each command has the outcome `memory`, at the end of the journal and without an event
abbrev pub AreRefused : ℕ → List Task → List Record → Type 0
AreRefused at [] [] = ⊤
AreRefused at [] (r ∷ records) = ⊥
AreRefused at (t ∷ tasks) [] = ⊥
AreRefused at (t ∷ tasks) (r ∷ records) = (r ≡ record { span = record { from = at; to = at }; outcome = Memory }) × AreRefused at tasks records

-- how a run begins and goes on
pub record RunsGrow (O Key Recon Cond : Type 0) : Type 0 where
  pub begins : (speech : Speech Key Cond) (loaded : List (Entry Key)) → RunOf {O = O} {Recon = Recon} speech loaded [] (load_events loaded) []
  pub goes_on : (speech : Speech Key Cond) (loaded : List (Entry Key)) (old new : List (Event O Key Recon Cond)) (tasks more : List Task) (records added : List Record) → RunOf speech loaded tasks old records → BlockOf speech old new more added
      → RunOf speech loaded (tasks ++ more) new (records ++ added)
  pub alone : (speech : Speech Key Cond) (old new : List (Event O Key Recon Cond)) (t : Task) (r : Record) → Performed speech old new t r → BlockOf speech old new (t ∷ []) (r ∷ [])
  pub lanes : (speech : Speech Key Cond) (old new more : List (Event O Key Recon Cond)) → new ≡ old ++ more → (block : ℕ) (alone : Bool) (lanes : List (List Command)) (groups : List (List Record)) → LanesRan speech (length old) new block 0 alone lanes groups
      → BlockOf speech old new (lanes_tasks block 0 alone lanes) (joined groups)
  pub refused : (speech : Speech Key Cond) (old : List (Event O Key Recon Cond)) (tasks : List Task) (records : List Record) → AreRefused (length old) tasks records → BlockOf speech old old tasks records
  pub lane : (speech : Speech Key Cond) (low : ℕ) (journal : List (Event O Key Recon Cond)) (block seat : ℕ) (alone : Bool) (commands : List Command) (records : List Record) (each : List (List (Event O Key Recon Cond)))
      → SpansTold speech journal low (lane_tasks block seat alone commands) records each → own seat (drop low journal) ≡ joined each → LaneRan speech low journal seat (lane_tasks block seat alone commands) records
