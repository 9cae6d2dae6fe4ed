-- What the operation in a seat's slot needs, and what a section of it does.
use Rattle.std.specs.Prelude.{◌≡◌, ◌<◌, [], ℕ, List, length, slice_set, slice_index_or, IfSome}
use Rattle.spg_base.specs.Row.{RowAt}
use Rattle.spg_opclass.specs.Meaning.{Meaning}
use Rattle.spg_rows.specs.Table as rows
use Rattle.spg_rows.specs.declared.table.RowState.TheVariants as row_state
use Rattle.spg_tree.specs.Table.{Table, sheets_of}
use Rattle.spg_tree.specs.Descents.{Descending}
use Rattle.spg_descend.specs.Carried.{IsCarried}
use Rattle.spg_descend.specs.Leaves.{stand_block, parent_block}
use Rattle.spg_scan.specs.Scanning.{Scanning, IsClosing, emptied}
use Rattle.spg_scan.specs.Reading.{IsHeld, IsReadOut}
use Rattle.spg_scan.specs.declared.walk.ReadOut.{ReadOut}
use Rattle.spg_scan.specs.declared.walk.Closed.{Closed}
use Rattle.spg_core.specs.declared.answer.InsertOut.{InsertOut}
use Rattle.spg_core.specs.declared.slot.Slot.{Slot}
use Rattle.spg_core.specs.declared.slot.Slot.TheVariants.{Free, Insert, Scan, Vacuum}
use Rattle.spg_seats.specs.Descending.{Stands}
use Rattle.spg_core.specs.Stepping.{IsOutgrown}
use Rattle.spg_core.specs.Telling.{StepDone}

abbrev pub CanStep : {O Key Recon Cond : Type 0} → Meaning Key Recon Cond → Table → Slot O Key Recon Cond → Type 0
CanStep m t Free = ⊥
CanStep m t (Insert key d) = IsCarried m (sheets_of t) d key × Stands t d
CanStep m t (Scan s) = ⊥
CanStep m t (Vacuum v) = ⊥

abbrev pub IsOutgrownBy : {O Key Recon Cond : Type 0} → Table → Slot O Key Recon Cond → Type 0
IsOutgrownBy t Free = ⊥
IsOutgrownBy t (Insert key d) = IsOutgrown t d
IsOutgrownBy t (Scan s) = ⊥
IsOutgrownBy t (Vacuum v) = ⊥

-- the insert in a slot does a section, and is in the slot then
abbrev pub StepsFrom : {O Key Recon Cond : Type 0} → Meaning Key Recon Cond → Table → Table → List (Slot O Key Recon Cond) → List (Slot O Key Recon Cond) → ℕ → InsertOut → Slot O Key Recon Cond → Type 0
StepsFrom m t t2 old new seat out Free = ⊥
StepsFrom {O} {Key} {Recon} m t t2 old new seat out (Insert key d) =
    (d2 : Descending Recon) × (new ≡ slice_set old seat (Insert key d2)) × StepDone m t t2 d d2 seat out
StepsFrom m t t2 old new seat out (Scan s) = ⊥
StepsFrom m t t2 old new seat out (Vacuum v) = ⊥

abbrev pub StepsSlot : {O Key Recon Cond : Type 0} → Meaning Key Recon Cond → Table → Table → List (Slot O Key Recon Cond) → List (Slot O Key Recon Cond) → ℕ → InsertOut → Type 0
StepsSlot m t t2 old new seat out = StepsFrom m t t2 old new seat out (slice_index_or old seat Free)

abbrev pub CanRead : {O Key Recon Cond : Type 0} → Meaning Key Recon Cond → Table → Slot O Key Recon Cond → ℕ → Type 0
CanRead m t Free item = ⊥
CanRead m t (Insert key d) item = ⊥
CanRead m t (Scan s) item = (item < length s.items) × IsHeld m (sheets_of t) s item
CanRead m t (Vacuum v) item = ⊥

abbrev pub ReadsFrom : {O Key Recon Cond : Type 0} → Meaning Key Recon Cond → Table → rows.Table O Key Recon Cond → List (Slot O Key Recon Cond) → List (Slot O Key Recon Cond) → ℕ → ℕ → ReadOut → Slot O Key Recon Cond → Type 0
ReadsFrom m t table old new seat item out Free = ⊥
ReadsFrom m t table old new seat item out (Insert key d) = ⊥
ReadsFrom {O} {Key} {Recon} {Cond} m t table old new seat item out (Scan s) = (s2 : Scanning O Key Recon Cond) × (new ≡ slice_set old seat (Scan s2)) × IsReadOut m t table s s2 item seat out
ReadsFrom m t table old new seat item out (Vacuum v) = ⊥

abbrev pub ReadsSlot : {O Key Recon Cond : Type 0} → Meaning Key Recon Cond → Table → rows.Table O Key Recon Cond → List (Slot O Key Recon Cond) → List (Slot O Key Recon Cond) → ℕ → ℕ → ReadOut → Type 0
ReadsSlot m t table old new seat item out = ReadsFrom m t table old new seat item out (slice_index_or old seat Free)

abbrev pub CanClose : {O Key Recon Cond : Type 0} → Slot O Key Recon Cond → Type 0
CanClose Free = ⊥
CanClose (Insert key d) = ⊥
CanClose (Scan s) = s.items ≡ []
CanClose (Vacuum v) = ⊥

abbrev pub ClosesFrom : {O Key Recon Cond : Type 0} → List (Slot O Key Recon Cond) → List (Slot O Key Recon Cond) → ℕ → Closed → Slot O Key Recon Cond → Type 0
ClosesFrom old new seat closed Free = ⊥
ClosesFrom old new seat closed (Insert key d) = ⊥
ClosesFrom old new seat closed (Scan s) = (new ≡ slice_set old seat (Scan (emptied s))) × IsClosing s closed
ClosesFrom old new seat closed (Vacuum v) = ⊥

abbrev pub ClosesSlot : {O Key Recon Cond : Type 0} → List (Slot O Key Recon Cond) → List (Slot O Key Recon Cond) → ℕ → Closed → Type 0
ClosesSlot old new seat closed = ClosesFrom old new seat closed (slice_index_or old seat Free)

-- the blocks of the insert's latches are there, and its row is claimed
abbrev pub CanRelease : {O Key Recon Cond : Type 0} → Table → rows.Table O Key Recon Cond → Slot O Key Recon Cond → Type 0
CanRelease t table Free = Unit {0}
CanRelease t table (Insert key d) = IfSome (stand_block d.stand) (λ b. b < length t.pages) × IfSome (parent_block d.parent) (λ b. b < length t.pages) × (rows.state_in table d.row ≡ row_state.Claimed)
CanRelease t table (Scan s) = Unit {0}
CanRelease t table (Vacuum v) = Unit {0}

abbrev pub IsInsert : {O Key Recon Cond : Type 0} → Slot O Key Recon Cond → Type 0
IsInsert Free = ⊥
IsInsert (Insert key d) = Unit {0}
IsInsert (Scan s) = ⊥
IsInsert (Vacuum v) = ⊥

abbrev pub IsRowOf : {O Key Recon Cond : Type 0} → Slot O Key Recon Cond → RowAt → Type 0
IsRowOf Free row = ⊥
IsRowOf (Insert key d) row = row ≡ d.row
IsRowOf (Scan s) row = ⊥
IsRowOf (Vacuum v) row = ⊥

abbrev pub IsDescentOf : {O Key Recon Cond : Type 0} → Slot O Key Recon Cond → Descending Recon → Type 0
IsDescentOf Free d2 = ⊥
IsDescentOf (Insert key d) d2 = d2 ≡ d
IsDescentOf (Scan s) d2 = ⊥
IsDescentOf (Vacuum v) d2 = ⊥
