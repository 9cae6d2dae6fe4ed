-- What a seat's slot says.
use Rattle.std.specs.Prelude.{◌≡◌, ℕ, List, Option, None}
use Rattle.spg_rows.specs.Table.{Table, SetsState, SetsKey}
use Rattle.spg_rows.specs.declared.table.RowState.TheVariants as row_state
use Rattle.spg_core.specs.declared.slot.Slot.{Slot}
use Rattle.spg_core.specs.declared.slot.Slot.TheVariants as slot
use Rattle.spg_rows.specs.Vacuums.{newest_ends}
use Rattle.spg_core.specs.Stage.{Stage, free, descending, reading, sweeping}

abbrev pub stage_of : {O Key Recon Cond : Type 0} → Slot O Key Recon Cond → Stage O Key Recon Cond
stage_of slot.Free = free
stage_of (slot.Insert key d) = descending key d
stage_of (slot.Scan s) = reading s
stage_of (slot.Vacuum v) = sweeping v

-- the row of an insert is then free, and the others are as they were
abbrev pub GivesBack : {O Key Recon Cond : Type 0} → Slot O Key Recon Cond → Table O Key Recon Cond → Table O Key Recon Cond → Type 0
GivesBack slot.Free old new = new ≡ old
GivesBack (slot.Insert key d) old new = SetsState old new d.row row_state.Free × SetsKey old new d.row None
GivesBack (slot.Scan s) old new = new ≡ old
GivesBack (slot.Vacuum v) old new = new ≡ old

-- the vacuum of a slot, where it has one, ends at a position
abbrev pub ended_with : {O Key Recon Cond : Type 0} → Slot O Key Recon Cond → ℕ → List (ℕ × Option ℕ) → List (ℕ × Option ℕ)
ended_with slot.Free at list = list
ended_with (slot.Insert key d) at list = list
ended_with (slot.Scan s) at list = list
ended_with (slot.Vacuum v) at list = newest_ends at list
