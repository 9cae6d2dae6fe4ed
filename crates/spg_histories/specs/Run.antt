-- When a journal and a list of records are a run of a script.
use Rattle.std.specs.Prelude.{◌≡◌, ◌<◌, ◌≤◌, ◌⊎◌, ◌-◌, ◌*◌, ◌++◌, ℕ, true, false, List, [], ◌∷◌, length, map, Option, is_some, Some, ⊤}
use Rattle.std.specs.List.{AllZip, AllByRecursion}
use Rattle.spg_base.specs.Row.{RowAt}
use Rattle.spg_base.specs.declared.point.Point.{Point}
use Rattle.spg_opclass.specs.declared.query.Query.{Query}
use Rattle.spg_opclass.specs.declared.query.Query.TheVariants as scan
pub use Rattle.spg_rows.specs.declared.entry.Entry.{Entry}
use Rattle.spg_rows.specs.declared.event.Event.{Event}
use Rattle.spg_rows.specs.declared.event.Event.TheVariants.{OpenInsert, Put, Drop, Kill, OpenScan, CloseScan, OpenVacuum, Sweep, CloseVacuum, Leave}
use Rattle.spg_rows.specs.declared.event.Why.TheVariants as cause
use Rattle.spg_rows.specs.History.{History, vacuuming, open_of, own}
pub use Rattle.spg_rows.specs.Loads.{load_events}
use Rattle.spg_rows.specs.Rows.{held_by, is_live}
use Rattle.spg_rows.specs.Told.{IsUsed}
pub use Rattle.spg_calls.specs.Calls.{between, past_at, IsBySeat}
use Rattle.spg_script.specs.declared.any_key.AnyKey.{AnyKey}
use Rattle.spg_script.specs.declared.any_query.AnyQuery.{AnyQuery}
use Rattle.spg_script.specs.declared.any_query.AnyQuery.TheVariants.{All}
use Rattle.spg_script.specs.declared.command.Command.{Command}
use Rattle.spg_script.specs.declared.command.Command.TheVariants as asked
use Rattle.spg_script.specs.Speech.{Speech, key_or_null_in, query_in}
use Rattle.spg_report.specs.declared.outcome.Outcome.{Outcome}
use Rattle.spg_report.specs.declared.outcome.Outcome.TheVariants as outcome
use Rattle.spg_report.specs.declared.record.Record.{Record}
use Rattle.spg_histories.specs.Tasks.{Task}
use Rattle.spg_histories.specs.Nearest.{AreNearest}

-- ---- kinds of commands

abbrev pub OfInsert : (RowAt → Option AnyKey → Type 0) → Command → Type 0
OfInsert P (asked.Insert row key) = P row key
OfInsert P c = ⊥

abbrev pub OfDelete : (RowAt → Type 0) → Command → Type 0
OfDelete P (asked.Delete row) = P row
OfDelete P c = ⊥

abbrev pub OfFind : (AnyQuery → Type 0) → Command → Type 0
OfFind P (asked.Find query) = P query
OfFind P c = ⊥

abbrev pub OfVacuum : Type 0 → Command → Type 0
OfVacuum P asked.Vacuum = P
OfVacuum P c = ⊥

abbrev pub OfSave : Type 0 → Command → Type 0
OfSave P (asked.Save name) = P
OfSave P c = ⊥

abbrev pub OfStat : Type 0 → Command → Type 0
OfStat P asked.Stat = P
OfStat P c = ⊥

abbrev pub OfNear : (Point → ℕ → Type 0) → Command → Type 0
OfNear P (asked.Near target limit) = P target limit
OfNear P c = ⊥

-- ---- the events of a command

module _ {O Key Recon Cond : Type 0} (speech : Speech Key Cond) where
  -- an insert of the class's key opens, and this follows
  abbrev pub Inserts : ℕ → RowAt → Option AnyKey → List (Event O Key Recon Cond) → List (Event O Key Recon Cond) → Type 0
  Inserts seat row key more events = (k : Option Key) × (key_or_null_in speech key ≡ Some k) × (events ≡ OpenInsert seat row k ∷ more)

  -- a scan of the class's query opens, and this follows
  abbrev pub Scans : ℕ → AnyQuery → Event O Key Recon Cond → List (Event O Key Recon Cond) → Type 0
  Scans seat query last events = (q : Query O Key Recon Cond) × (query_in speech query ≡ Some q) × (events ≡ OpenScan seat q ∷ last ∷ [])

  -- a vacuum opens, sweeps so many rows, and ends so
  abbrev pub Sweeps : ℕ → ℕ → Event O Key Recon Cond → List (Event O Key Recon Cond) → Type 0
  Sweeps seat n last events = (rows : List RowAt) × (length rows ≡ n) × (events ≡ OpenVacuum seat ∷ (map (λ r. Sweep seat r) rows ++ last ∷ []))

  -- what was opened is given up
  abbrev pub GivesUp : ℕ → List (Event O Key Recon Cond) → Command → Type 0
  GivesUp seat events (asked.Insert row key) = Inserts seat row key (Drop seat row cause.Given ∷ []) events
  GivesUp seat events (asked.Find query) = Scans seat query (Leave seat) events
  GivesUp seat events (asked.Near target limit) = Scans seat All (Leave seat) events
  GivesUp seat events asked.Vacuum = (n : ℕ) × Sweeps seat n (Leave seat) events
  GivesUp seat events c = ⊥

  -- a command that began after this past had this outcome with these events
  abbrev pub Does : Task → History O Key Recon Cond → List (Event O Key Recon Cond) → Outcome → Type 0
  Does t before events outcome.Added = OfInsert (λ row key. Inserts t.seat row key (Put t.seat row ∷ []) events) t.command
  Does t before events outcome.RowUsed = OfInsert (λ row key. IsUsed before row × (events ≡ [])) t.command
  Does t before events (outcome.RowHeld by) = OfInsert (λ row key. (held_by row before ≡ Some by) × (events ≡ [])) t.command
  Does t before events outcome.Full = OfInsert (λ row key. Inserts t.seat row key (Drop t.seat row cause.Full ∷ []) events) t.command
  Does t before events outcome.ClockFull = OfInsert (λ row key. Inserts t.seat row key (Drop t.seat row cause.Clock ∷ []) events) t.command
  Does t before events outcome.Killed = OfDelete (λ row. events ≡ Kill t.seat row ∷ []) t.command
  Does t before events outcome.NotLive = OfDelete (λ row. (is_live row before ≡ false) × (events ≡ [])) t.command
  Does t before events (outcome.Found rows walk) = OfFind (λ query. Scans t.seat query (CloseScan t.seat rows) events × (is_some walk ≡ t.alone)) t.command
  Does t before events (outcome.Vacuumed n) = OfVacuum (Sweeps t.seat n (CloseVacuum t.seat n) events) t.command
  Does t before events (outcome.OpenBy seat) = OfVacuum (((opened : History O Key Recon Cond) × (open_of seat before ≡ vacuuming opened)) × (events ≡ [])) t.command
  Does t before events (outcome.Saved pages) = OfSave (events ≡ []) t.command
  Does t before events outcome.ImageFault = OfSave (events ≡ []) t.command
  Does t before events (outcome.Stat counts) = OfStat (events ≡ []) t.command
  Does t before events (outcome.Near rows walk) = OfNear (λ target limit. Scans t.seat All (Leave t.seat) events × AreNearest speech before (OpenScan t.seat scan.All ∷ before) target limit rows × (t.alone ≡ true)) t.command
  Does t before events outcome.Memory = (events ≡ []) ⊎ GivesUp t.seat events t.command

-- ---- records

-- the record of a command says what the journal says
pub record Did {O Key Recon Cond : Type 0} (speech : Speech Key Cond) (journal : List (Event O Key Recon Cond)) (t : Task) (r : Record) : Type 0 where
  pub does : Does speech t (past_at r.span.from journal) (own t.seat (between r.span.from r.span.to journal)) r.outcome
  -- its first event and its last are those at its ends; a command without an event begins where it ends
  pub first : r.span.from < r.span.to → IsBySeat t.seat journal r.span.from
  pub last : r.span.from < r.span.to → IsBySeat t.seat journal (r.span.to - 1)

-- a later command begins where an earlier one has ended, or after it, but for two lanes of one block
abbrev pub Follows : Task → Record → Task → Record → Type 0
Follows t r t2 r2 = (t.block ≡ t2.block → t.seat ≡ t2.seat) → r.span.to ≤ r2.span.from

abbrev pub AreInOrder : List Task → List Record → Type 0
AreInOrder [] records = ⊤
AreInOrder (t ∷ tasks) [] = ⊤
AreInOrder (t ∷ tasks) (r ∷ records) = AllZip (Follows t r) tasks records × AreInOrder tasks records

-- a record's positions lie within these
pub record IsWithin (low high : ℕ) (r : Record) : Type 0 where
  pub after : low ≤ r.span.from
  pub order : r.span.from ≤ r.span.to
  pub before : r.span.to ≤ high

-- the event at the position is one of this command
pub record Owns {O Key Recon Cond : Type 0} (journal : List (Event O Key Recon Cond)) (at : ℕ) (t : Task) (r : Record) : Type 0 where
  pub by_seat : IsBySeat t.seat journal at
  pub from : r.span.from ≤ at
  pub to : at < r.span.to

-- the event at the position is one of a command
abbrev pub IsOwned : {O Key Recon Cond : Type 0} → List (Event O Key Recon Cond) → ℕ → List Task → List Record → Type 0
IsOwned journal at [] records = ⊥
IsOwned journal at (t ∷ tasks) [] = ⊥
IsOwned journal at (t ∷ tasks) (r ∷ records) = Owns journal at t r ⊎ IsOwned journal at tasks records

-- the journal begins with the load of these entries
abbrev pub BeginsWith : {O Key Recon Cond : Type 0} → List (Entry Key) → List (Event O Key Recon Cond) → Type 0
BeginsWith {O} {Key} {Recon} {Cond} loaded journal = (more : List (Event O Key Recon Cond)) × (journal ≡ load_events loaded ++ more)

-- the journal and the records are a run of these commands, over the entries that were loaded
pub record RunOf {O Key Recon Cond : Type 0} (speech : Speech Key Cond) (loaded : List (Entry Key)) (tasks : List Task) (journal : List (Event O Key Recon Cond)) (records : List Record) : Type 0 where
  pub begins : BeginsWith loaded journal
  pub each : AllZip (Did speech journal) tasks records
  pub in_order : AreInOrder tasks records
  pub within : AllByRecursion (IsWithin (2 * length loaded) (length journal)) records
  -- each event that is not of the load is one of a command
  pub covered : (at : ℕ) → 2 * length loaded ≤ at → at < length journal → IsOwned journal at tasks records
