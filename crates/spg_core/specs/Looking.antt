-- What a look at an open insert tells, and how the insert goes on by what the class answered; the same of an item of an open scan.
use Rattle.std.specs.Prelude.{◌≡◌, ℕ, suc}
use Rattle.spg_base.specs.Row.{RowAt}
use Rattle.spg_opclass.specs.Meaning.{Meaning}
use Rattle.spg_opclass.specs.Copies.{AtTuple, RestsAt}
use Rattle.spg_opclass.specs.declared.copied.Copied.{Copied}
use Rattle.spg_rows.specs.Table as rows
use Rattle.spg_rows.specs.Rows.{state_of}
use Rattle.spg_tree.specs.Table.{Table}
use Rattle.spg_scan.specs.Scanning.{Scanning}
use Rattle.spg_scan.specs.Copying.{IsCopyOut, HasKept, TakesIn}
use Rattle.spg_scan.specs.declared.scan_copy.ScanCopy.{ScanCopy}
use Rattle.spg_core.specs.declared.answer.InsertOut.{InsertOut}
use Rattle.spg_core.specs.declared.look.Look.{Look}
use Rattle.spg_core.specs.declared.look.Look.TheVariants.{Stepped, Choose, Part}
use Rattle.spg_core.specs.Stage.{Stage, free, descending, reading, sweeping}
use Rattle.spg_core.specs.Seen.{Seen, stage_at, moved, past_of, untouched}
use Rattle.spg_core.specs.Stepping.{MakesAtMostOne}
use Rattle.spg_core.specs.Guides.{IsSpottedAt, IsBunchAt, AsksAt}
use Rattle.spg_core.specs.Ends.{SeatEnds, SeatThenEnds}
use Rattle.spg_core.specs.Sections.{IsInsertOut, TellsSection, LatchesAfter}

-- ---- inserts

-- the insert that is open at this stage stands at this inner tuple of the main tree, with this rebuilt value and this rest of its key
abbrev pub SpottedIn : {O Key Recon Cond : Type 0} → Table → Stage O Key Recon Cond → AtTuple Recon → Type 0
SpottedIn t free x = ⊥
SpottedIn t (descending key d) x = IsSpottedAt t d x
SpottedIn t (reading s) x = ⊥
SpottedIn t (sweeping v) x = ⊥

abbrev pub IsSpotted : {O Key Recon Cond : Type 0} → Seen O Key Recon Cond → ℕ → AtTuple Recon → Type 0
IsSpotted seen seat x = SpottedIn seen.table (stage_at seen seat) x

-- it divides leaves of the main tree: these rests, its own the last, with this rebuilt value
abbrev pub BunchIn : {O Key Recon Cond : Type 0} → Table → Stage O Key Recon Cond → RestsAt Recon → Type 0
BunchIn t free x = ⊥
BunchIn t (descending key d) x = IsBunchAt t d x
BunchIn t (reading s) x = ⊥
BunchIn t (sweeping v) x = ⊥

abbrev pub IsBunch : {O Key Recon Cond : Type 0} → Seen O Key Recon Cond → ℕ → RestsAt Recon → Type 0
IsBunch seen seat x = BunchIn seen.table (stage_at seen seat) x

-- the class has a say in the next section: the insert stands at an inner tuple of the main tree, or divides leaves of it
abbrev pub AsksIn : {O Key Recon Cond : Type 0} → Table → Stage O Key Recon Cond → Type 0
AsksIn t free = ⊥
AsksIn t (descending key d) = AsksAt t d
AsksIn t (reading s) = ⊥
AsksIn t (sweeping v) = ⊥

abbrev pub Asks : {O Key Recon Cond : Type 0} → Seen O Key Recon Cond → ℕ → Type 0
Asks seen seat = AsksIn seen.table (stage_at seen seat)

-- the seat's insert has done a section with this outcome
pub record StepsInsert {O Key Recon Cond : Type 0} (m : Meaning Key Recon Cond) (old new : Seen O Key Recon Cond) (seat : ℕ) (out : InsertOut) : Type 0 where
  pub ok : IsInsertOut old new seat out
  pub told : TellsSection m old new seat out
  pub latches : LatchesAfter new seat out
  pub makes : MakesAtMostOne old.table new.table
  pub ends : (n : ℕ) → SeatEnds m old seat (suc n) → SeatThenEnds m new seat n out

-- what comes of a look: a copy for the class, where it has a say in the next section; else that section
abbrev pub LooksAt : {O Key Recon Cond : Type 0} → Meaning Key Recon Cond → Seen O Key Recon Cond → Seen O Key Recon Cond → ℕ → Look O Key Recon Cond → Type 0
LooksAt m old new seat (Stepped out) = (Asks old seat → ⊥) × StepsInsert m old new seat out
LooksAt m old new seat (Choose spotted) = (new ≡ old) × IsSpotted old seat spotted
LooksAt m old new seat (Part bunch) = (new ≡ old) × IsBunch old seat bunch

-- ---- scans

-- a scan has given the copy of an item, or read it; the states of rows are the journal's
abbrev pub CopiesFor : {O Key Recon Cond : Type 0} → Meaning Key Recon Cond → Seen O Key Recon Cond → Seen O Key Recon Cond → ℕ → ℕ → ScanCopy O Key Recon Cond → Stage O Key Recon Cond → Type 0
CopiesFor m old new seat item out free = ⊥
CopiesFor m old new seat item out (descending key d) = ⊥
CopiesFor {O} {Key} {Recon} {Cond} m old new seat item out (reading s) =
    (s2 : Scanning O Key Recon Cond) × (table : rows.Table O Key Recon Cond) × ((row : RowAt) → rows.state_in table row ≡ state_of row (past_of old)) × IsCopyOut m old.table table s s2 item seat out × (new ≡ moved old seat (reading s2) (untouched old.table)) × (stage_at new seat ≡ reading s2)
CopiesFor m old new seat item out (sweeping v) = ⊥

abbrev pub CopiesItem : {O Key Recon Cond : Type 0} → Meaning Key Recon Cond → Seen O Key Recon Cond → Seen O Key Recon Cond → ℕ → ℕ → ScanCopy O Key Recon Cond → Type 0
CopiesItem m old new seat item out = CopiesFor m old new seat item out (stage_at old seat)

-- the scan that is open at this stage has this copy of the item
abbrev pub KeptIn : {O Key Recon Cond : Type 0} → Stage O Key Recon Cond → ℕ → Copied O Key Recon Cond → Type 0
KeptIn free item copied = ⊥
KeptIn (descending key d) item copied = ⊥
KeptIn (reading s) item copied = HasKept s item copied
KeptIn (sweeping v) item copied = ⊥

-- it has taken in what the class answered for the copy of the item
abbrev pub SiftsFor : {O Key Recon Cond : Type 0} → Meaning Key Recon Cond → Seen O Key Recon Cond → Seen O Key Recon Cond → ℕ → ℕ → Copied O Key Recon Cond → Stage O Key Recon Cond → Type 0
SiftsFor m old new seat item copied free = ⊥
SiftsFor m old new seat item copied (descending key d) = ⊥
SiftsFor {O} {Key} {Recon} {Cond} m old new seat item copied (reading s) =
    (s2 : Scanning O Key Recon Cond) × TakesIn m s s2 item copied × (new ≡ moved old seat (reading s2) (untouched old.table)) × (stage_at new seat ≡ reading s2)
SiftsFor m old new seat item copied (sweeping v) = ⊥

abbrev pub SiftsItem : {O Key Recon Cond : Type 0} → Meaning Key Recon Cond → Seen O Key Recon Cond → Seen O Key Recon Cond → ℕ → ℕ → Copied O Key Recon Cond → Type 0
SiftsItem m old new seat item copied = SiftsFor m old new seat item copied (stage_at old seat)
