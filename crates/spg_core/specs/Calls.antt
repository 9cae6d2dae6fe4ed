-- What a call of a state does, as its callers see it, and any list of such calls.
use Rattle.std.specs.Prelude.{◌≡◌, ◌<◌, ◌≤◌, ◌^◌, ◌++◌, ⊤, ℕ, Bool, true, false, List, [], ◌∷◌, Option, length}
use Rattle.spg_base.specs.Row.{RowAt}
use Rattle.spg_opclass.specs.Meaning.{Meaning}
use Rattle.spg_rows.specs.declared.event.Event.TheVariants.{Put}
use Rattle.spg_rows.specs.declared.event.Why.{Why}
use Rattle.spg_rows.specs.History.{own}
use Rattle.spg_rows.specs.Rows.{is_claimed}
use Rattle.spg_tree.specs.Table.{sheets_of}
use Rattle.spg_tree.specs.Descents.{Descending}
use Rattle.spg_descend.specs.Enters.{opened_for, CarriesNew}
use Rattle.spg_scan.specs.Others.{ChangesPages}
use Rattle.spg_scan.specs.Scanning.{Scanning, IsClosing}
use Rattle.spg_vacuum.specs.declared.vacuum.Vacuum.{Vacuum}
use Rattle.spg_seats.specs.Drops.{MayDrop}
use Rattle.spg_seats.specs.Slots.{Stage, free, descending, reading, sweeping, horizon_of, NoneSweeps, IsSafe, Fields, IsKept}
use Rattle.spg_bounds.specs.Bounds.{IsBounded}
use Rattle.spg_core.specs.declared.answer.InsertOut.{InsertOut}
use Rattle.spg_core.specs.declared.answer.InsertOut.TheVariants as outs
use Rattle.spg_core.specs.declared.answer.VacuumOut.{VacuumOut}
use Rattle.spg_core.specs.declared.answer.VacuumOut.TheVariants as work
use Rattle.spg_core.specs.declared.look.Look.{Look}
use Rattle.spg_core.specs.declared.look.Look.TheVariants as look
use Rattle.spg_core.specs.Seen.{Seen, stage_at, moved, logged, past_of, KeepsClass}
use Rattle.spg_core.specs.Sweeping.{DoesWork, KeepsWork}
use Rattle.spg_core.specs.Telling.{StepDone}
use Rattle.spg_core.specs.Sections.{OpensInsert, KillsRow, OpensScan, ReadsItem, ClosesScan, OpensVacuum, AreTargets, IsAfterWork, GivesUp}
use Rattle.spg_core.specs.Looking.{CopiesItem, SiftsItem}
use Rattle.spg_core.specs.Runs.{Call, refused, opens_insert, steps, kills, opens_scan, reads, copies, sifts, closes, drops, leaves, opens_vacuum, works, events_by, IsLeft}

-- after a section of the seat's insert: once its row is put, the seat has nothing open
abbrev pub InsertsTo : {O Key Recon Cond : Type 0} → Seen O Key Recon Cond → Seen O Key Recon Cond → ℕ → Option Key → Descending Recon → Descending Recon → InsertOut → Type 0
InsertsTo old new seat key d d2 outs.Descended = (new ≡ moved old seat (descending key d2) new.table) × (stage_at new seat ≡ descending key d2)
InsertsTo old new seat key d d2 outs.Restructured = (new ≡ moved old seat (descending key d2) new.table) × (stage_at new seat ≡ descending key d2)
InsertsTo old new seat key d d2 (outs.Restarted block by) = (new ≡ moved old seat (descending key d2) new.table) × (stage_at new seat ≡ descending key d2)
InsertsTo old new seat key d d2 outs.Put = (new ≡ logged old seat (Put seat d.row) free new.table) × (stage_at new seat ≡ free)

-- a section that tells sweeps leaves a journal of fewer than 2^64 events
abbrev pub IsShortAfter : {O Key Recon Cond : Type 0} → VacuumOut → Seen O Key Recon Cond → Type 0
IsShortAfter work.Block new = length new.journal < 2 ^ 64
IsShortAfter work.Pending new = length new.journal < 2 ^ 64
IsShortAfter (work.Latched block by) new = ⊤
IsShortAfter (work.Finished count) new = ⊤

-- The call takes the state from one to the other: its conditions hold, and it does what it does. A refused call changes nothing
abbrev pub IsCall : {O Key Recon Cond : Type 0} → Meaning Key Recon Cond → Seen O Key Recon Cond → Seen O Key Recon Cond → ℕ → Call O Key Recon Cond → Type 0
IsCall m old new seat refused = new ≡ old
IsCall m old new seat (opens_insert row key) = (stage_at old seat ≡ free) × (is_claimed row (past_of old) ≡ false) × CarriesNew m (opened_for m row key) key × OpensInsert m old new seat row key
IsCall {O} {Key} {Recon} m old new seat (steps row out) =
    (key : Option Key) × (d d2 : Descending Recon) × (stage_at old seat ≡ descending key d) × (d.row ≡ row) × StepDone m old.table new.table d d2 seat out × InsertsTo old new seat key d d2 out
IsCall m old new seat (kills row) = (stage_at old seat ≡ free) × KillsRow old new seat row true
IsCall m old new seat (opens_scan query) = (stage_at old seat ≡ free) × OpensScan m old new seat query
IsCall m old new seat (reads item out) = ReadsItem m old new seat item out
IsCall m old new seat (copies item out) = CopiesItem m old new seat item out
IsCall m old new seat (sifts item copied) = SiftsItem m old new seat item copied
IsCall {O} {Key} {Recon} {Cond} m old new seat (closes closed) = (s : Scanning O Key Recon Cond) × (stage_at old seat ≡ reading s) × (s.items ≡ []) × IsClosing s closed × ClosesScan old new seat closed
IsCall {O} {Key} {Recon} m old new seat (drops row why) =
    (key : Option Key) × (d : Descending Recon) × (stage_at old seat ≡ descending key d) × (d.row ≡ row) × MayDrop old.table why × GivesUp old new seat why
IsCall m old new seat leaves = IsLeft (stage_at old seat) × (why : Why) × GivesUp old new seat why
IsCall m old new seat opens_vacuum = (stage_at old seat ≡ free) × NoneSweeps old.stages × OpensVacuum old new seat
IsCall m old new seat (works out swept) =
    let horizon : Vacuum → ℕ = λ v. horizon_of old.stages v.stamp in
    (v v2 : Vacuum) × (test : RowAt → Bool) × (stage_at old seat ≡ sweeping v) × AreTargets test v.at old × DoesWork old.table new.table v v2 test (horizon v) seat out swept
    × KeepsWork m old.table new.table v v2 test (horizon v) out swept × IsAfterWork old new seat v2 swept out × IsShortAfter out new

-- ---- the calls whose rows the caller does not name

-- a section of an insert, of the row that the seat inserts
abbrev pub Inserts : {O Key Recon Cond : Type 0} → Meaning Key Recon Cond → Seen O Key Recon Cond → Seen O Key Recon Cond → ℕ → InsertOut → Type 0
Inserts m old new seat out = (row : RowAt) × IsCall m old new seat (steps row out)

-- a look that asks the class changes nothing; any other is a section
abbrev pub Looks : {O Key Recon Cond : Type 0} → Meaning Key Recon Cond → Seen O Key Recon Cond → Seen O Key Recon Cond → ℕ → Look O Key Recon Cond → Type 0
Looks m old new seat (look.Stepped out) = Inserts m old new seat out
Looks m old new seat (look.Choose spotted) = IsCall m old new seat refused
Looks m old new seat (look.Part bunch) = IsCall m old new seat refused

-- a kill of a row that is not live changes nothing
abbrev pub kill_of : {O Key Recon Cond : Type 0} → RowAt → Bool → Call O Key Recon Cond
kill_of row true = kills row
kill_of row false = refused

-- a section of a vacuum, of the rows that it sweeps
abbrev pub WorksOn : {O Key Recon Cond : Type 0} → Meaning Key Recon Cond → Seen O Key Recon Cond → Seen O Key Recon Cond → ℕ → VacuumOut → Type 0
WorksOn m old new seat out = (swept : List RowAt) × IsCall m old new seat (works out swept)

-- It changes the pages as a section of another seat may, with no harm to what began at the opening stamp of any open scan or of the vacuum, or later
abbrev pub SweepsPages : {O Key Recon Cond : Type 0} → Meaning Key Recon Cond → Seen O Key Recon Cond → Seen O Key Recon Cond → ℕ → Type 0
SweepsPages m old new seat = (since : ℕ) × IsSafe old.stages since × (since ≤ old.table.clock) × ChangesPages m (past_of old) seat (sheets_of old.table) (sheets_of new.table) new.table.touched since

-- what a seat has open is given up: an insert is dropped, and a scan or a vacuum is left
abbrev pub given : {O Key Recon Cond : Type 0} → Stage O Key Recon Cond → Why → Call O Key Recon Cond
given free why = leaves
given (descending key d) why = drops d.row why
given (reading s) why = leaves
given (sweeping v) why = leaves

-- ---- any list of calls

-- what is seen of the fields, beside the class
abbrev pub shown : {O Key Recon Cond : Type 0} → Option O → Fields O Key Recon Cond → Seen O Key Recon Cond
shown class s = record { journal = s.journal; stages = s.stages; table = s.table; origin = s.origin; class = class }

-- all is kept that a state keeps: there are a table of rows, sets of killed rows, a list of vacuums and room that go with what is seen
abbrev pub IsWhole : {O Key Recon Cond : Type 0} → Meaning Key Recon Cond → Seen O Key Recon Cond → Type 0
IsWhole {O} {Key} {Recon} {Cond} m seen = (s : Fields O Key Recon Cond) × (shown seen.class s ≡ seen) × IsKept m s × IsBounded m s

-- one call after another, each of a seat
abbrev pub AreCalls : {O Key Recon Cond : Type 0} → Meaning Key Recon Cond → Seen O Key Recon Cond → List (ℕ × Call O Key Recon Cond) → Seen O Key Recon Cond → Type 0
AreCalls m old [] new = new ≡ old
AreCalls {O} {Key} {Recon} {Cond} m old ((seat, call) ∷ calls) new = (next : Seen O Key Recon Cond) × IsCall m old next seat call × AreCalls m next calls new

-- then all is kept, the class too, and the events of each seat are those of its calls
abbrev pub CallsKeep : (O Key Recon Cond : Type 0) → Meaning Key Recon Cond → Type 0
CallsKeep O Key Recon Cond m = (old new : Seen O Key Recon Cond) (calls : List (ℕ × Call O Key Recon Cond)) → IsWhole m old → AreCalls m old calls new →
    IsWhole m new × KeepsClass old new × ((seat : ℕ) → own seat new.journal ≡ own seat old.journal ++ events_by seat calls)
