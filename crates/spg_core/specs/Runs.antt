-- Calls of any seats in any order.
use Rattle.std.specs.Prelude.{◌≡◌, ◌<◌, ◌≤◌, ◌^◌, ◌++◌, ℕ, true, false, List, [], ◌∷◌, Option, length, reverse, slice_set, if◌then◌else◌, ◌==◌, ⊤}
use Rattle.spg_base.specs.Row.{RowAt}
use Rattle.spg_opclass.specs.Meaning.{Meaning}
use Rattle.spg_opclass.specs.declared.copied.Copied.{Copied}
use Rattle.spg_opclass.specs.declared.query.Query.{Query}
use Rattle.spg_rows.specs.declared.event.Event.{Event}
use Rattle.spg_rows.specs.declared.event.Event.TheVariants as event
use Rattle.spg_rows.specs.declared.event.Why.{Why}
use Rattle.spg_rows.specs.History.{own}
use Rattle.spg_rows.specs.Rows.{is_claimed, is_live}
use Rattle.spg_tree.specs.Table.{Table}
use Rattle.spg_tree.specs.Descents.{Descending}
use Rattle.spg_descend.specs.Enters.{opened_for, CarriesNew}
use Rattle.spg_scan.specs.Scanning.{Scanning, IsClosing, opened}
use Rattle.spg_scan.specs.Reading.{IsReadOut}
use Rattle.spg_scan.specs.Copying.{IsCopyOut, TakesIn}
use Rattle.spg_scan.specs.declared.scan_copy.ScanCopy.{ScanCopy}
use Rattle.spg_scan.specs.declared.walk.ReadOut.{ReadOut}
use Rattle.spg_scan.specs.declared.walk.Closed.{Closed}
use Rattle.spg_seats.specs.Drops.{MayDrop}
use Rattle.spg_seats.specs.Latching.{HoldsNone, rest_of}
use Rattle.spg_vacuum.specs.declared.vacuum.Vacuum.{Vacuum}
use Rattle.spg_seats.specs.Opening.{opened_vacuum, SameRows, ChangesRows, SweepsRows, EndsNewest, sweeps}
use Rattle.spg_seats.specs.Slots.{Stage, free, descending, reading, sweeping, stage_in, open_count, horizon_of, NoneSweeps, Fields, IsKept}
use Rattle.spg_core.specs.declared.answer.InsertOut.{InsertOut}
use Rattle.spg_core.specs.declared.answer.InsertOut.TheVariants as outs
use Rattle.spg_core.specs.declared.answer.VacuumOut.{VacuumOut}
use Rattle.spg_core.specs.declared.answer.VacuumOut.TheVariants as work
use Rattle.spg_core.specs.Seen.{untouched}
use Rattle.spg_core.specs.Sweeping.{DoesWork, KeepsWork}
use Rattle.spg_core.specs.Telling.{IsButLatches, StepDone}

-- a call that was not refused, with what came of it; a refused one, and a kill of a row that is not live, change nothing but the room
pub data Call (O Key Recon Cond : Type 0) : Type 0 where
  refused : Call O Key Recon Cond
  opens_insert : RowAt → Option Key → Call O Key Recon Cond
  steps : RowAt → InsertOut → Call O Key Recon Cond
  kills : RowAt → Call O Key Recon Cond
  opens_scan : Query O Key Recon Cond → Call O Key Recon Cond
  reads : ℕ → ReadOut → Call O Key Recon Cond
  copies : ℕ → ScanCopy O Key Recon Cond → Call O Key Recon Cond
  sifts : ℕ → Copied O Key Recon Cond → Call O Key Recon Cond
  closes : Closed → Call O Key Recon Cond
  drops : RowAt → Why → Call O Key Recon Cond
  leaves : Call O Key Recon Cond
  opens_vacuum : Call O Key Recon Cond
  works : VacuumOut → List RowAt → Call O Key Recon Cond

-- the events of a call
abbrev pub put_by : {O Key Recon Cond : Type 0} → ℕ → RowAt → InsertOut → List (Event O Key Recon Cond)
put_by seat row outs.Descended = []
put_by seat row outs.Restructured = []
put_by seat row (outs.Restarted block by) = []
put_by seat row outs.Put = event.Put seat row ∷ []

abbrev pub work_events : {O Key Recon Cond : Type 0} → ℕ → List RowAt → VacuumOut → List (Event O Key Recon Cond)
work_events seat swept work.Block = sweeps seat swept
work_events seat swept work.Pending = sweeps seat swept
work_events seat swept (work.Latched block by) = []
work_events seat swept (work.Finished count) = event.CloseVacuum seat count ∷ []

abbrev pub events_of : {O Key Recon Cond : Type 0} → ℕ → Call O Key Recon Cond → List (Event O Key Recon Cond)
events_of seat refused = []
events_of seat (opens_insert row key) = event.OpenInsert seat row key ∷ []
events_of seat (steps row out) = put_by seat row out
events_of seat (kills row) = event.Kill seat row ∷ []
events_of seat (opens_scan query) = event.OpenScan seat query ∷ []
events_of seat (reads item out) = []
events_of seat (copies item out) = []
events_of seat (sifts item copied) = []
events_of seat (closes closed) = event.CloseScan seat closed.rows ∷ []
events_of seat (drops row why) = event.Drop seat row why ∷ []
events_of seat leaves = event.Leave seat ∷ []
events_of seat opens_vacuum = event.OpenVacuum seat ∷ []
events_of seat (works out swept) = work_events seat swept out

-- the seat is then at this stage, and the journal is longer by these events; there is room for the events that end what is open
pub record Goes {O Key Recon Cond : Type 0} (s s2 : Fields O Key Recon Cond) (seat : ℕ) (stage : Stage O Key Recon Cond) (events : List (Event O Key Recon Cond)) : Type 0 where
  pub journal : s2.journal ≡ s.journal ++ events
  pub stages : s2.stages ≡ slice_set s.stages seat stage
  pub here : stage_in s2.stages seat ≡ stage
  pub origin : s2.origin ≡ s.origin
  pub room : open_count s2.stages ≤ s2.spare

-- a section of the seat's insert: once its row is put, the seat has nothing open
abbrev pub StepsTo : {O Key Recon Cond : Type 0} → Fields O Key Recon Cond → Fields O Key Recon Cond → ℕ → Option Key → Descending Recon → Descending Recon → InsertOut → Type 0
StepsTo s s2 seat key d d2 outs.Descended = Goes s s2 seat (descending key d2) [] × SameRows s s2
StepsTo s s2 seat key d d2 outs.Restructured = Goes s s2 seat (descending key d2) [] × SameRows s s2
StepsTo s s2 seat key d d2 (outs.Restarted block by) = Goes s s2 seat (descending key d2) [] × SameRows s s2
StepsTo {O} {Key} {Recon} {Cond} s s2 seat key d d2 outs.Put = Goes s s2 seat free (event.Put seat d.row ∷ []) × ChangesRows (event.Put seat d.row) (reverse s.journal) s s2

-- a section of the seat's vacuum: its sweeps are told in order, of fewer than 2^64 events in all; once it is at its end, the seat has nothing open
abbrev pub WorksTo : {O Key Recon Cond : Type 0} → Fields O Key Recon Cond → Fields O Key Recon Cond → ℕ → Vacuum → Vacuum → List RowAt → VacuumOut → Type 0
WorksTo s s2 seat v v2 swept work.Block = Goes s s2 seat (sweeping v2) (sweeps seat swept) × SweepsRows v.at swept s s2 × (length s2.journal < 2 ^ 64)
WorksTo s s2 seat v v2 swept work.Pending = Goes s s2 seat (sweeping v2) (sweeps seat swept) × SweepsRows v.at swept s s2 × (length s2.journal < 2 ^ 64)
WorksTo s s2 seat v v2 swept (work.Latched block by) = Goes s s2 seat (sweeping v2) [] × SameRows s s2
WorksTo s s2 seat v v2 swept (work.Finished count) = Goes s s2 seat free (event.CloseVacuum seat count ∷ []) × EndsNewest (length (reverse s.journal)) s s2

-- a scan or a vacuum, which may be left
abbrev pub IsLeft : {O Key Recon Cond : Type 0} → Stage O Key Recon Cond → Type 0
IsLeft free = ⊥
IsLeft (descending key d) = ⊥
IsLeft (reading q) = ⊤
IsLeft (sweeping v) = ⊤

-- what a call of a seat does, where its conditions hold
abbrev pub Does : {O Key Recon Cond : Type 0} → Meaning Key Recon Cond → Fields O Key Recon Cond → Fields O Key Recon Cond → ℕ → Call O Key Recon Cond → Type 0
Does m s s2 seat refused = (spare : ℕ) × (s.spare ≤ spare) × (s2 ≡ record s { spare = spare })
Does m s s2 seat (opens_insert row key) =
    (stage_in s.stages seat ≡ free) × (is_claimed row (reverse s.journal) ≡ false) × CarriesNew m (opened_for m row key) key
    × Goes s s2 seat (descending key (opened_for m row key)) (event.OpenInsert seat row key ∷ []) × (s2.table ≡ untouched s.table) × ChangesRows (event.OpenInsert seat row key) (reverse s.journal) s s2
Does {O} {Key} {Recon} m s s2 seat (steps row out) =
    (key : Option Key) × (d d2 : Descending Recon) × (stage_in s.stages seat ≡ descending key d) × (d.row ≡ row) × StepDone m s.table s2.table d d2 seat out × StepsTo s s2 seat key d d2 out
Does {O} {Key} {Recon} {Cond} m s s2 seat (kills row) =
    (stage_in s.stages seat ≡ free) × (is_live row (reverse s.journal) ≡ true) × Goes s s2 seat free (event.Kill seat row ∷ []) × (s2.table ≡ untouched s.table)
    × ChangesRows (event.Kill seat row) (reverse s.journal) s s2
Does m s s2 seat (opens_scan query) =
    (stage_in s.stages seat ≡ free) × Goes s s2 seat (reading (opened m query (length s.journal) s.table.clock)) (event.OpenScan seat query ∷ []) × (s2.table ≡ untouched s.table) × SameRows s s2
Does {O} {Key} {Recon} {Cond} m s s2 seat (reads item out) =
    (q q2 : Scanning O Key Recon Cond) × (stage_in s.stages seat ≡ reading q) × IsReadOut m s.table s.rows q q2 item seat out × Goes s s2 seat (reading q2) [] × (s2.table ≡ untouched s.table) × SameRows s s2
Does {O} {Key} {Recon} {Cond} m s s2 seat (copies item out) =
    (q q2 : Scanning O Key Recon Cond) × (stage_in s.stages seat ≡ reading q) × IsCopyOut m s.table s.rows q q2 item seat out × Goes s s2 seat (reading q2) [] × (s2.table ≡ untouched s.table) × SameRows s s2
Does {O} {Key} {Recon} {Cond} m s s2 seat (sifts item copied) =
    (q q2 : Scanning O Key Recon Cond) × (stage_in s.stages seat ≡ reading q) × TakesIn m q q2 item copied × Goes s s2 seat (reading q2) [] × (s2.table ≡ untouched s.table) × SameRows s s2
Does {O} {Key} {Recon} {Cond} m s s2 seat (closes closed) =
    (q : Scanning O Key Recon Cond) × (stage_in s.stages seat ≡ reading q) × (q.items ≡ []) × IsClosing q closed × Goes s s2 seat free (event.CloseScan seat closed.rows ∷ []) × (s2.table ≡ untouched s.table) × SameRows s s2
Does {O} {Key} {Recon} {Cond} m s s2 seat (drops row why) =
    (key : Option Key) × (d : Descending Recon) × (stage_in s.stages seat ≡ descending key d) × (d.row ≡ row) × MayDrop s.table why × Goes s s2 seat free (event.Drop seat row why ∷ []) × ((t : Table) × IsButLatches s.table t × (s2.table ≡ untouched t)) × HoldsNone s2.table seat (rest_of s.table seat)
    × ChangesRows (event.Drop seat row why) (reverse s.journal) s s2
Does {O} {Key} {Recon} {Cond} m s s2 seat leaves =
    IsLeft (stage_in s.stages seat) × Goes s s2 seat free (event.Leave seat ∷ []) × ((t : Table) × IsButLatches s.table t × (s2.table ≡ untouched t)) × HoldsNone s2.table seat (rest_of s.table seat) × ChangesRows (event.Leave seat) (reverse s.journal) s s2
Does {O} {Key} {Recon} {Cond} m s s2 seat opens_vacuum =
    (stage_in s.stages seat ≡ free) × NoneSweeps s.stages × Goes s s2 seat (sweeping (opened_vacuum (length s.journal) s.table.clock)) (event.OpenVacuum seat ∷ []) × (s2.table ≡ untouched s.table) × ChangesRows (event.OpenVacuum seat) (reverse s.journal) s s2
Does m s s2 seat (works out swept) =
    let horizon : Vacuum → ℕ = λ v. horizon_of s.stages v.stamp in
    (v v2 : Vacuum) × (stage_in s.stages seat ≡ sweeping v) × DoesWork s.table s2.table v v2 s.targets (horizon v) seat out swept × KeepsWork m s.table s2.table v v2 s.targets (horizon v) out swept × WorksTo s s2 seat v v2 swept out

-- one call after another, each of a seat
abbrev pub Runs : {O Key Recon Cond : Type 0} → Meaning Key Recon Cond → Fields O Key Recon Cond → List (ℕ × Call O Key Recon Cond) → Fields O Key Recon Cond → Type 0
Runs m s [] s2 = s2 ≡ s
Runs {O} {Key} {Recon} {Cond} m s ((seat, call) ∷ calls) s2 = (s1 : Fields O Key Recon Cond) × Does m s s1 seat call × Runs m s1 calls s2

-- the events of a seat's calls
abbrev pub events_by : {O Key Recon Cond : Type 0} → ℕ → List (ℕ × Call O Key Recon Cond) → List (Event O Key Recon Cond)
events_by seat [] = []
events_by seat ((by, call) ∷ calls) = (if by == seat then events_of by call else []) ++ events_by seat calls

-- then all that a state keeps is kept, and the events of each seat are those of its calls
abbrev pub RunsKeep : (O Key Recon Cond : Type 0) → Meaning Key Recon Cond → Type 0
RunsKeep O Key Recon Cond m = (s s2 : Fields O Key Recon Cond) (calls : List (ℕ × Call O Key Recon Cond)) → IsKept m s → Runs m s calls s2 →
    IsKept m s2 × ((seat : ℕ) → own seat s2.journal ≡ own seat s.journal ++ events_by seat calls)
