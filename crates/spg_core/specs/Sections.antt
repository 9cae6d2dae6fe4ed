-- What each call of a state does, as its callers see it.
use Rattle.std.specs.Prelude.{◌≡◌, ◌≢◌, ◌<◌, ◌⊎◌, ◌↔◌, [], ℕ, Bool, true, false, is_none, List, Option, Some, length}
use Rattle.spg_base.specs.Row.{RowAt}
use Rattle.spg_opclass.specs.Meaning.{Meaning}
use Rattle.spg_opclass.specs.declared.query.Query.{Query}
use Rattle.spg_forest.specs.Walk.{weight_of}
use Rattle.spg_rows.specs.Table as rows
use Rattle.spg_rows.specs.Rows.{state_of}
use Rattle.spg_rows.specs.declared.table.RowState.TheVariants as row_state
use Rattle.spg_rows.specs.declared.event.Event.TheVariants.{OpenInsert, Put, Kill, OpenScan, CloseScan, OpenVacuum, CloseVacuum}
use Rattle.spg_rows.specs.declared.event.Why.{Why}
use Rattle.spg_tree.specs.Table.{Table, start_table, latch_at}
use Rattle.spg_tree.specs.Descents.{Descending}
use Rattle.spg_tree.specs.declared.stand.Stand.TheVariants.{Start}
use Rattle.spg_descend.specs.Enters.{opened_for}
use Rattle.spg_descend.specs.Follows.{IsAtInner}
use Rattle.spg_descend.specs.Rules.{IsAtNoInner}
use Rattle.spg_scan.specs.Scanning.{Scanning, opened}
use Rattle.spg_scan.specs.Reading.{IsReadOut}
use Rattle.spg_scan.specs.declared.walk.ReadOut.{ReadOut}
use Rattle.spg_scan.specs.declared.walk.Closed.{Closed}
use Rattle.spg_core.specs.declared.answer.InsertOut.{InsertOut}
use Rattle.spg_core.specs.declared.answer.InsertOut.TheVariants as outs
use Rattle.spg_core.specs.Stage.{Stage, free, descending, reading, sweeping, given_up}
use Rattle.spg_rows.specs.Targets.{killed_before}
use Rattle.spg_vacuum.specs.declared.vacuum.Vacuum.{Vacuum}
use Rattle.spg_seats.specs.Opening.{opened_vacuum, sweeps}
use Rattle.spg_seats.specs.Slots.{HasLatches, horizon_of}
use Rattle.spg_core.specs.declared.answer.VacuumOut.{VacuumOut}
use Rattle.spg_core.specs.declared.answer.VacuumOut.TheVariants as works
use Rattle.spg_core.specs.Sweeping.{DoesWork}
use Rattle.spg_core.specs.Seen.{Seen, stage_at, moved, logged, logged_all, past_of, untouched}
use Rattle.spg_core.specs.Stepping.{SamePages}
use Rattle.spg_core.specs.Telling.{StepTells}
use Rattle.spg_core.specs.Refusing.{FindsNoPage, Ticks}
use Rattle.spg_core.specs.Weight.{opened_keys}

-- an empty index of 3 pages, with this limit
pub record IsNew {O Key Recon Cond : Type 0} (limit : ℕ) (seen : Seen O Key Recon Cond) : Type 0 where
  pub journal : seen.journal ≡ []
  pub stages : (seat : ℕ) → stage_at seen seat ≡ free
  pub table : seen.table ≡ start_table limit
  pub origin : seen.origin ≡ record { limit = limit; pages = 3; clock = 0; loaded = false }

abbrev pub OpensInsert : {O Key Recon Cond : Type 0} → Meaning Key Recon Cond → Seen O Key Recon Cond → Seen O Key Recon Cond → ℕ → RowAt → Option Key → Type 0
OpensInsert m old new seat row key = (new ≡ logged old seat (OpenInsert seat row key) (descending key (opened_for m row key)) (untouched old.table)) × (stage_at new seat ≡ descending key (opened_for m row key))

-- where an insert stands when this comes of a section: at the start or at an inner tuple it goes down; off inner tuples its leaf is put; off the start the leaves are divided without it, a node is put in, or an inner tuple is split; where another seat has latched the block it is sent back
abbrev pub StoodFor : {Recon : Type 0} → Table → Descending Recon → ℕ → InsertOut → Type 0
StoodFor t d seat outs.Descended = (d.stand ≡ Start) ⊎ IsAtInner t d.stand
StoodFor t d seat outs.Restructured = d.stand ≡ Start → ⊥
StoodFor t d seat (outs.Restarted block by) = (latch_at t block ≡ Some by) × (by ≢ seat)
StoodFor t d seat outs.Put = IsAtNoInner t d.stand

-- the insert has done a section with this outcome: at `Put` it has ended, else it goes on
abbrev pub IsAfterSection : {O Key Recon Cond : Type 0} → Seen O Key Recon Cond → Seen O Key Recon Cond → ℕ → Option Key → Descending Recon → InsertOut → Type 0
IsAfterSection {O} {Key} {Recon} old new seat key d outs.Put = (new ≡ logged old seat (Put seat d.row) free new.table) × (stage_at new seat ≡ free)
IsAfterSection {O} {Key} {Recon} old new seat key d outs.Descended = (d2 : Descending Recon) × (d2.row ≡ d.row) × SamePages old.table new.table × (new ≡ moved old seat (descending key d2) new.table) × (stage_at new seat ≡ descending key d2)
IsAfterSection {O} {Key} {Recon} old new seat key d outs.Restructured = (d2 : Descending Recon) × (d2.row ≡ d.row) × (new ≡ moved old seat (descending key d2) new.table) × (stage_at new seat ≡ descending key d2)
IsAfterSection {O} {Key} {Recon} old new seat key d (outs.Restarted block by) = (d2 : Descending Recon) × (d2.row ≡ d.row) × (d2.stand ≡ Start) × SamePages old.table new.table × (new ≡ moved old seat (descending key d2) new.table) × (stage_at new seat ≡ descending key d2)

abbrev pub IsOutOf : {O Key Recon Cond : Type 0} → Seen O Key Recon Cond → Seen O Key Recon Cond → ℕ → InsertOut → Stage O Key Recon Cond → Type 0
IsOutOf old new seat out free = ⊥
IsOutOf old new seat out (descending key d) = StoodFor old.table d seat out × IsAfterSection old new seat key d out
IsOutOf old new seat out (reading s) = ⊥
IsOutOf old new seat out (sweeping v) = ⊥

abbrev pub IsInsertOut : {O Key Recon Cond : Type 0} → Seen O Key Recon Cond → Seen O Key Recon Cond → ℕ → InsertOut → Type 0
IsInsertOut old new seat out = IsOutOf old new seat out (stage_at old seat)

-- the insert goes on from where it stands then, unless it has ended
abbrev pub IsAtThen : {O Key Recon Cond : Type 0} → Seen O Key Recon Cond → ℕ → Option Key → Descending Recon → InsertOut → Type 0
IsAtThen new seat key d2 outs.Put = stage_at new seat ≡ free
IsAtThen new seat key d2 outs.Descended = stage_at new seat ≡ descending key d2
IsAtThen new seat key d2 outs.Restructured = stage_at new seat ≡ descending key d2
IsAtThen new seat key d2 (outs.Restarted block by) = stage_at new seat ≡ descending key d2

-- which of its ways the section took, and what that way tells of pages, clock, counter and limit
abbrev pub TellsFor : {O Key Recon Cond : Type 0} → Meaning Key Recon Cond → Seen O Key Recon Cond → Seen O Key Recon Cond → ℕ → InsertOut → Stage O Key Recon Cond → Type 0
TellsFor m old new seat out free = ⊥
TellsFor {O} {Key} {Recon} m old new seat out (descending key d) = (d2 : Descending Recon) × IsAtThen new seat key d2 out × StepTells m old.table new.table d d2 seat out
TellsFor m old new seat out (reading s) = ⊥
TellsFor m old new seat out (sweeping v) = ⊥

abbrev pub TellsSection : {O Key Recon Cond : Type 0} → Meaning Key Recon Cond → Seen O Key Recon Cond → Seen O Key Recon Cond → ℕ → InsertOut → Type 0
TellsSection m old new seat out = TellsFor m old new seat out (stage_at old seat)

-- ---- latches

-- the seat has nothing latched
abbrev pub HasNone : Table → ℕ → Type 0
HasNone t seat = (b : ℕ) → latch_at t b ≢ Some seat

-- the other seats have latched what they had
abbrev pub OthersHold : Table → Table → ℕ → Type 0
OthersHold t t2 seat = (other b : ℕ) → other ≢ seat → (latch_at t2 b ≡ Some other) ↔ (latch_at t b ≡ Some other)

-- after a section the seat has latched just the blocks where its insert stands and of the tuple above; once its row is put, and at its start, none
abbrev pub LatchesAfter : {O Key Recon Cond : Type 0} → Seen O Key Recon Cond → ℕ → InsertOut → Type 0
LatchesAfter new seat outs.Descended = HasLatches new.table seat (stage_at new seat)
LatchesAfter new seat outs.Restructured = HasLatches new.table seat (stage_at new seat)
LatchesAfter new seat (outs.Restarted block by) = HasNone new.table seat
LatchesAfter new seat outs.Put = HasNone new.table seat

-- ---- the other calls

-- the row is killed exactly where it is live
abbrev pub KillsRow : {O Key Recon Cond : Type 0} → Seen O Key Recon Cond → Seen O Key Recon Cond → ℕ → RowAt → Bool → Type 0
KillsRow old new seat row true = (state_of row (past_of old) ≡ row_state.Live) × (new ≡ logged old seat (Kill seat row) free (untouched old.table)) × (stage_at new seat ≡ free)
KillsRow old new seat row false = (state_of row (past_of old) ≢ row_state.Live) × (new ≡ old)

-- the keys of the insert's tree that were ever inserted take more than 8,160 bytes, where the state was not loaded
abbrev pub IsHeavyFor : {O Key Recon Cond : Type 0} → Meaning Key Recon Cond → Seen O Key Recon Cond → Stage O Key Recon Cond → Type 0
IsHeavyFor m seen free = ⊥
IsHeavyFor m seen (descending key d) = seen.origin.loaded ≡ false → 8160 < weight_of m (is_none key) (opened_keys (past_of seen))
IsHeavyFor m seen (reading s) = ⊥
IsHeavyFor m seen (sweeping v) = ⊥

abbrev pub IsHeavy : {O Key Recon Cond : Type 0} → Meaning Key Recon Cond → Seen O Key Recon Cond → ℕ → Type 0
IsHeavy m seen seat = IsHeavyFor m seen (stage_at seen seat)

-- a section of the seat's insert that comes now: a pick of it finds no page
abbrev pub FindsNoPageFor : {O Key Recon Cond : Type 0} → Meaning Key Recon Cond → Table → ℕ → Stage O Key Recon Cond → Type 0
FindsNoPageFor m t seat free = ⊥
FindsNoPageFor m t seat (descending key d) = FindsNoPage m t d seat
FindsNoPageFor m t seat (reading s) = ⊥
FindsNoPageFor m t seat (sweeping v) = ⊥

abbrev pub SeatFindsNoPage : {O Key Recon Cond : Type 0} → Meaning Key Recon Cond → Seen O Key Recon Cond → ℕ → Type 0
SeatFindsNoPage m seen seat = FindsNoPageFor m seen.table seat (stage_at seen seat)

-- it raises the clock
abbrev pub TicksFor : {O Key Recon Cond : Type 0} → Meaning Key Recon Cond → Table → Stage O Key Recon Cond → Type 0
TicksFor m t free = ⊥
TicksFor m t (descending key d) = Ticks m t d
TicksFor m t (reading s) = ⊥
TicksFor m t (sweeping v) = ⊥

abbrev pub SeatTicks : {O Key Recon Cond : Type 0} → Meaning Key Recon Cond → Seen O Key Recon Cond → ℕ → Type 0
SeatTicks m seen seat = TicksFor m seen.table (stage_at seen seat)

abbrev pub OpensScan : {O Key Recon Cond : Type 0} → Meaning Key Recon Cond → Seen O Key Recon Cond → Seen O Key Recon Cond → ℕ → Query O Key Recon Cond → Type 0
OpensScan m old new seat query =
    let s : Stage _ _ _ _ = reading (opened m query (length old.journal) old.table.clock) in
    (new ≡ logged old seat (OpenScan seat query) s (untouched old.table)) × (stage_at new seat ≡ s)

-- a scan has read an item; the states of rows are the journal's
abbrev pub ReadsFor : {O Key Recon Cond : Type 0} → Meaning Key Recon Cond → Seen O Key Recon Cond → Seen O Key Recon Cond → ℕ → ℕ → ReadOut → Stage O Key Recon Cond → Type 0
ReadsFor m old new seat item out free = ⊥
ReadsFor m old new seat item out (descending key d) = ⊥
ReadsFor {O} {Key} {Recon} {Cond} m old new seat item out (reading s) =
    (s2 : Scanning O Key Recon Cond) × (table : rows.Table O Key Recon Cond) × ((row : RowAt) → rows.state_in table row ≡ state_of row (past_of old)) × IsReadOut m old.table table s s2 item seat out × (new ≡ moved old seat (reading s2) (untouched old.table)) × (stage_at new seat ≡ reading s2)
ReadsFor m old new seat item out (sweeping v) = ⊥

abbrev pub ReadsItem : {O Key Recon Cond : Type 0} → Meaning Key Recon Cond → Seen O Key Recon Cond → Seen O Key Recon Cond → ℕ → ℕ → ReadOut → Type 0
ReadsItem m old new seat item out = ReadsFor m old new seat item out (stage_at old seat)

-- a scan was closed: what it met is what it had met
abbrev pub HasMet : {O Key Recon Cond : Type 0} → Stage O Key Recon Cond → ℕ → Type 0
HasMet free met = ⊥
HasMet (descending key d) met = ⊥
HasMet (reading s) met = met ≡ s.met
HasMet (sweeping v) met = ⊥

abbrev pub ClosesScan : {O Key Recon Cond : Type 0} → Seen O Key Recon Cond → Seen O Key Recon Cond → ℕ → Closed → Type 0
ClosesScan old new seat closed = (new ≡ logged old seat (CloseScan seat closed.rows) free (untouched old.table)) × (stage_at new seat ≡ free) × HasMet (stage_at old seat) closed.met

-- ---- vacuums

abbrev pub OpensVacuum : {O Key Recon Cond : Type 0} → Seen O Key Recon Cond → Seen O Key Recon Cond → ℕ → Type 0
OpensVacuum old new seat =
    let s : Stage _ _ _ _ = sweeping (opened_vacuum (length old.journal) old.table.clock) in
    (new ≡ logged old seat (OpenVacuum seat) s (untouched old.table)) × (stage_at new seat ≡ s)

-- the rows of the test were deleted before this position, and are not swept
abbrev pub AreTargets : {O Key Recon Cond : Type 0} → (RowAt → Bool) → ℕ → Seen O Key Recon Cond → Type 0
AreTargets test at seen = (row : RowAt) → test row ≡ killed_before at (state_of row (past_of seen))

-- after a section of a vacuum: its sweeps are told in order, and it goes on; or it has ended
abbrev pub IsAfterWork : {O Key Recon Cond : Type 0} → Seen O Key Recon Cond → Seen O Key Recon Cond → ℕ → Vacuum → List RowAt → VacuumOut → Type 0
IsAfterWork old new seat v2 swept works.Block = (new ≡ logged_all old seat (sweeps seat swept) (sweeping v2) new.table) × (stage_at new seat ≡ sweeping v2)
IsAfterWork old new seat v2 swept works.Pending = (new ≡ logged_all old seat (sweeps seat swept) (sweeping v2) new.table) × (stage_at new seat ≡ sweeping v2)
IsAfterWork old new seat v2 swept (works.Latched block by) = (new ≡ moved old seat (sweeping v2) new.table) × (stage_at new seat ≡ sweeping v2)
IsAfterWork old new seat v2 swept (works.Finished count) = (new ≡ logged old seat (CloseVacuum seat count) free new.table) × (stage_at new seat ≡ free)

-- the seat's vacuum has done a section: on its targets, with the least opening stamp of all that is open for its horizon
abbrev pub StepsFor : {O Key Recon Cond : Type 0} → Seen O Key Recon Cond → Seen O Key Recon Cond → ℕ → VacuumOut → Stage O Key Recon Cond → Type 0
StepsFor old new seat out free = ⊥
StepsFor old new seat out (descending key d) = ⊥
StepsFor old new seat out (reading s) = ⊥
StepsFor old new seat out (sweeping v) =
    (v2 : Vacuum) × (swept : List RowAt) × (test : RowAt → Bool) × AreTargets test v.at old
    × DoesWork old.table new.table v v2 test (horizon_of old.stages v.stamp) seat out swept × IsAfterWork old new seat v2 swept out

abbrev pub StepsVacuum : {O Key Recon Cond : Type 0} → Seen O Key Recon Cond → Seen O Key Recon Cond → ℕ → VacuumOut → Type 0
StepsVacuum old new seat out = StepsFor old new seat out (stage_at old seat)

-- ---- giving up

-- but for latches the table is as it was, with none touched
abbrev pub IsReleased : Table → Table → Type 0
IsReleased t t2 = t2 ≡ record t { latches = t2.latches; touched = [] }

-- the operation was given up: the seat has nothing latched any more
pub record GivesUp {O Key Recon Cond : Type 0} (old new : Seen O Key Recon Cond) (seat : ℕ) (why : Why) : Type 0 where
  pub is : new ≡ logged old seat (given_up seat (stage_at old seat) why) free new.table
  pub stage : stage_at new seat ≡ free
  pub table : IsReleased old.table new.table
  pub latches : HasNone new.table seat
  pub others : OthersHold old.table new.table seat
