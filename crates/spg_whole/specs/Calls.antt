-- What a whole call does.
use Rattle.std.specs.Prelude.{◌≡◌, ◌<◌, ◌+◌, ◌^◌, ◌++◌, ◌⊎◌, ℕ, Bool, true, false, List, [], ◌∷◌, length, reverse, is_none, Option}
use Rattle.spg_base.specs.Row.{RowAt}
use Rattle.spg_opclass.specs.Meaning.{Meaning}
use Rattle.spg_opclass.specs.declared.query.Query.{Query}
use Rattle.spg_forest.specs.Walk.{Walk, weight_of}
use Rattle.spg_rows.specs.declared.event.Event.{Event}
use Rattle.spg_rows.specs.declared.event.Event.TheVariants.{OpenInsert, Put, Drop, Kill, OpenScan, CloseScan, OpenVacuum, CloseVacuum, Leave}
use Rattle.spg_rows.specs.declared.event.Why.{Why}
use Rattle.spg_rows.specs.declared.event.Why.TheVariants as cause
use Rattle.spg_rows.specs.History.{History, nothing, open_of}
use Rattle.spg_rows.specs.Right.{ScanRight, VacuumRight}
use Rattle.spg_rows.specs.Rows.{is_live, is_present}
use Rattle.spg_rows.specs.Told.{IsUsed}
use Rattle.spg_tree.specs.Table.{sheets_of}
use Rattle.spg_scan.specs.declared.walk.Closed.{Closed}
use Rattle.spg_seats.specs.Opening.{sweeps}
use Rattle.spg_core.specs.Seen.{Seen, past_of, KeepsClass}
use Rattle.spg_core.specs.Stepping.{SamePages, IsNearLimit, Grows}
use Rattle.spg_core.specs.Weight.{opened_keys}
use Rattle.spg_whole.specs.declared.refused.InsertRefused.{InsertRefused}
use Rattle.spg_whole.specs.declared.refused.InsertRefused.TheVariants as refused
use Rattle.spg_whole.specs.Answers.{IsAnswer}

-- no seat has anything open
abbrev pub AllClosed : {O Key Recon Cond : Type 0} → History O Key Recon Cond → Type 0
AllClosed past = (seat : ℕ) → open_of seat past ≡ nothing

-- the journal grew by these events, and no seat has anything open; with what the state was made and its class stay, no page is lost, and the clock does not go back
pub record Did {O Key Recon Cond : Type 0} (old new : Seen O Key Recon Cond) (events : List (Event O Key Recon Cond)) : Type 0 where
  pub journal : new.journal ≡ old.journal ++ events
  pub closed : AllClosed (past_of new)
  pub origin : new.origin ≡ old.origin
  pub class : KeepsClass old new
  pub grows : Grows old.table new.table

-- ---- inserts

abbrev pub Inserts : {O Key Recon Cond : Type 0} → Seen O Key Recon Cond → Seen O Key Recon Cond → ℕ → RowAt → Option Key → Type 0
Inserts old new seat row key = Did old new (OpenInsert seat row key ∷ Put seat row ∷ [])

-- an insert was opened, and given up with this cause
abbrev pub GaveUp : {O Key Recon Cond : Type 0} → Seen O Key Recon Cond → Seen O Key Recon Cond → ℕ → RowAt → Option Key → Why → Type 0
GaveUp old new seat row key why = Did old new (OpenInsert seat row key ∷ Drop seat row why ∷ [])

-- the keys of the tree that were ever inserted take more than 8,160 bytes, where the state was not loaded
abbrev pub IsOutgrown : {O Key Recon Cond : Type 0} → Meaning Key Recon Cond → Option Key → Seen O Key Recon Cond → Type 0
IsOutgrown m key seen = seen.origin.loaded ≡ false → 8160 < weight_of m (is_none key) (opened_keys (past_of seen))

-- why the row was not inserted, and what was done
abbrev pub KeepsOut : {O Key Recon Cond : Type 0} → Meaning Key Recon Cond → Seen O Key Recon Cond → Seen O Key Recon Cond → ℕ → RowAt → Option Key → InsertRefused → Type 0
KeepsOut m old new seat row key refused.RowUsed = (new ≡ old) × IsUsed (past_of old) row
KeepsOut m old new seat row key refused.IndexFull = GaveUp old new seat row key cause.Full × IsOutgrown m key new × IsNearLimit new.table
KeepsOut m old new seat row key refused.ClockFull = GaveUp old new seat row key cause.Clock × IsOutgrown m key new × (new.table.clock + 1 ≡ 2 ^ 48)
KeepsOut m old new seat row key refused.Memory = (new ≡ old) ⊎ GaveUp old new seat row key cause.Given

-- ---- deletes

-- the row was deleted exactly where it was live
abbrev pub Deletes : {O Key Recon Cond : Type 0} → Seen O Key Recon Cond → Seen O Key Recon Cond → ℕ → RowAt → Bool → Type 0
Deletes old new seat row true = (is_live row (past_of old) ≡ true) × Did old new (Kill seat row ∷ []) × SamePages old.table new.table
Deletes old new seat row false = (is_live row (past_of old) ≡ false) × (new ≡ old)

-- ---- searches

-- a scan was opened and closed with these rows: they are right, and just the live ones with a key that the query asks for
pub record FindsRows {O Key Recon Cond : Type 0} (m : Meaning Key Recon Cond) (old new : Seen O Key Recon Cond) (seat : ℕ) (query : Query O Key Recon Cond) (rows : List RowAt) : Type 0 where
  pub did : Did old new (OpenScan seat query ∷ CloseScan seat rows ∷ [])
  pub pages : SamePages old.table new.table
  pub right : ScanRight m (past_of old) (OpenScan seat query ∷ past_of old) query rows
  pub answer : IsAnswer m (past_of old) query rows

-- and it met so many tuples on its way
pub record Finds {O Key Recon Cond : Type 0} (m : Meaning Key Recon Cond) (old new : Seen O Key Recon Cond) (seat : ℕ) (query : Query O Key Recon Cond) (closed : Closed) : Type 0 where
  pub rows : FindsRows m old new seat query closed.rows
  pub walk : Walk m (sheets_of new.table) query closed.met

-- no scan was opened, or one was opened and left
abbrev pub FindsNone : {O Key Recon Cond : Type 0} → Seen O Key Recon Cond → Seen O Key Recon Cond → ℕ → Query O Key Recon Cond → Type 0
FindsNone old new seat query = (new ≡ old) ⊎ (Did old new (OpenScan seat query ∷ Leave seat ∷ []) × SamePages old.table new.table)

-- ---- vacuums

-- a vacuum was opened, swept these rows, and ended so
abbrev pub swept_then : {O Key Recon Cond : Type 0} → ℕ → List RowAt → Event O Key Recon Cond → List (Event O Key Recon Cond)
swept_then seat rows last = OpenVacuum seat ∷ (sweeps seat rows ++ last ∷ [])

-- a vacuum was opened and closed: it swept so many rows, it was right, and just the live rows are present then
pub record Vacuums {O Key Recon Cond : Type 0} (old new : Seen O Key Recon Cond) (seat swept : ℕ) : Type 0 where
  pub rows : List RowAt
  pub count : length rows ≡ swept
  pub did : Did old new (swept_then seat rows (CloseVacuum seat swept))
  pub right : VacuumRight (past_of old) (sweeps seat (reverse rows) ++ OpenVacuum seat ∷ past_of old) swept
  pub present : (r : RowAt) → is_present r (past_of new) ≡ is_live r (past_of old)

-- no vacuum was opened, or one was opened, swept some rows, and was left
abbrev pub VacuumsNot : {O Key Recon Cond : Type 0} → Seen O Key Recon Cond → Seen O Key Recon Cond → ℕ → Type 0
VacuumsNot old new seat = (new ≡ old) ⊎ ((rows : List RowAt) × Did old new (swept_then seat rows (Leave seat)))
