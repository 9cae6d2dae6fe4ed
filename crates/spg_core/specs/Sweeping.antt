-- What a section of a vacuum does, and what it needs.
use Rattle.std.specs.Prelude.{◌≡◌, ◌⊎◌, ℕ, Bool, false, List, [], map, slice_set, slice_index_or, if◌then◌else◌}
use Rattle.spg_base.specs.Row.{RowAt}
use Rattle.spg_opclass.specs.Meaning.{Meaning}
use Rattle.spg_cover.specs.Vacuum.{Of}
use Rattle.spg_rows.specs.Table as rows
use Rattle.spg_rows.specs.declared.table.RowState.TheVariants as row_state
use Rattle.spg_tree.specs.Table.{Table, with_touched}
use Rattle.spg_vacuum.specs.declared.done.Done.TheVariants.{Swept, Latched}
use Rattle.spg_vacuum.specs.declared.done.Work.TheVariants as works
use Rattle.spg_vacuum.specs.declared.vacuum.Vacuum.{Vacuum}
use Rattle.spg_vacuum.specs.Vacuums.{work_of, IsVacuum, BlockDone, FirstDone, KeepsVacuum, LeavesNone}
use Rattle.spg_seats.specs.Slots.{horizon_of}
use Rattle.spg_seats.specs.Opening.{is_among}
use Rattle.spg_core.specs.declared.answer.VacuumOut.{VacuumOut}
use Rattle.spg_core.specs.declared.answer.VacuumOut.TheVariants as outs
use Rattle.spg_core.specs.declared.slot.Slot.{Slot}
use Rattle.spg_core.specs.declared.slot.Slot.TheVariants as slot
use Rattle.spg_core.specs.declared.sweeping.Stepped.{Stepped}
use Rattle.spg_core.specs.Slot.{stage_of}

-- What a section of a vacuum does, by what is next: it handles the next block or the first pending place, and these rows are swept; another seat has latched the block; or the vacuum is at its end, and has swept so many
abbrev pub DoesWork : Table → Table → Vacuum → Vacuum → (RowAt → Bool) → ℕ → ℕ → VacuumOut → List RowAt → Type 0
DoesWork t t2 v v2 test horizon seat outs.Block rows = (work_of v t ≡ works.Block) × BlockDone t t2 v v2 test horizon seat (Swept rows)
DoesWork t t2 v v2 test horizon seat outs.Pending rows = (work_of v t ≡ works.Pending) × FirstDone t t2 v v2 test horizon seat (Swept rows)
DoesWork t t2 v v2 test horizon seat (outs.Latched block by) rows = (rows ≡ [])
    × (((work_of v t ≡ works.Block) × BlockDone t t2 v v2 test horizon seat (Latched block by)) ⊎ ((work_of v t ≡ works.Pending) × FirstDone t t2 v v2 test horizon seat (Latched block by)))
DoesWork t t2 v v2 test horizon seat (outs.Finished swept) rows = (rows ≡ []) × (work_of v t ≡ works.Finish) × (swept ≡ v.swept) × (t2 ≡ with_touched t []) × (v2 ≡ v)

-- it takes just its rows, and what is left of the targets is covered; at its end none is left
abbrev pub KeepsWork : {Key Recon Cond : Type 0} → Meaning Key Recon Cond → Table → Table → Vacuum → Vacuum → (RowAt → Bool) → ℕ → VacuumOut → List RowAt → Type 0
KeepsWork m t t2 v v2 test horizon outs.Block rows = KeepsVacuum m t t2 v2 test horizon (Swept rows)
KeepsWork m t t2 v v2 test horizon outs.Pending rows = KeepsVacuum m t t2 v2 test horizon (Swept rows)
KeepsWork m t t2 v v2 test horizon (outs.Latched block by) rows = Unit {0}
KeepsWork m t t2 v v2 test horizon (outs.Finished swept) rows = LeavesNone m t v

-- ---- in a slot

abbrev pub IsVacuumSlot : {O Key Recon Cond : Type 0} → Slot O Key Recon Cond → Type 0
IsVacuumSlot slot.Free = ⊥
IsVacuumSlot (slot.Insert key d) = ⊥
IsVacuumSlot (slot.Scan s) = ⊥
IsVacuumSlot (slot.Vacuum v) = Unit {0}

-- the least opening stamp of the vacuum and of all that is open
abbrev pub IsHorizonFor : {O Key Recon Cond : Type 0} → List (Slot O Key Recon Cond) → Slot O Key Recon Cond → ℕ → Type 0
IsHorizonFor slots slot.Free horizon = ⊥
IsHorizonFor slots (slot.Insert key d) horizon = ⊥
IsHorizonFor slots (slot.Scan s) horizon = ⊥
IsHorizonFor slots (slot.Vacuum v) horizon = horizon ≡ horizon_of (map stage_of slots) v.stamp

-- the rows that the test answers are the targets of the vacuum
abbrev pub CanSweep : {O Key Recon Cond : Type 0} → Meaning Key Recon Cond → Table → (RowAt → Bool) → Slot O Key Recon Cond → Type 0
CanSweep m t test slot.Free = ⊥
CanSweep m t test (slot.Insert key d) = ⊥
CanSweep m t test (slot.Scan s) = ⊥
CanSweep m t test (slot.Vacuum v) = IsVacuum m t v (Of test)

-- the vacuum in a slot does a section, and is in the slot then
abbrev pub SweepsFrom : {O Key Recon Cond : Type 0} → Meaning Key Recon Cond → Table → Table → List (Slot O Key Recon Cond) → List (Slot O Key Recon Cond) → (RowAt → Bool) → ℕ → Stepped → Slot O Key Recon Cond → Type 0
SweepsFrom m t t2 old new test seat stepped slot.Free = ⊥
SweepsFrom m t t2 old new test seat stepped (slot.Insert key d) = ⊥
SweepsFrom m t t2 old new test seat stepped (slot.Scan s) = ⊥
SweepsFrom m t t2 old new test seat stepped (slot.Vacuum v) =
    let horizon : ℕ = horizon_of (map stage_of old) v.stamp in
    (v2 : Vacuum) × (new ≡ slice_set old seat (slot.Vacuum v2)) × (stepped.opened ≡ v.at) × DoesWork t t2 v v2 test horizon seat stepped.out stepped.rows × KeepsWork m t t2 v v2 test horizon stepped.out stepped.rows

abbrev pub SweepsSlot : {O Key Recon Cond : Type 0} → Meaning Key Recon Cond → Table → Table → List (Slot O Key Recon Cond) → List (Slot O Key Recon Cond) → (RowAt → Bool) → ℕ → Stepped → Type 0
SweepsSlot m t t2 old new test seat stepped = SweepsFrom m t t2 old new test seat stepped (slice_index_or old seat slot.Free)

-- ---- what is told of it

-- these rows then are swept by the vacuum that opened at a position, and the others as they were
abbrev pub SetsSwept : {O Key Recon Cond : Type 0} → rows.Table O Key Recon Cond → rows.Table O Key Recon Cond → ℕ → List RowAt → Type 0
SetsSwept old new vacuum swept = (r : RowAt) → rows.state_in new r ≡ (if is_among swept r then row_state.Swept vacuum else rows.state_in old r)

-- they leave the set
abbrev pub LeaveSet : (RowAt → Bool) → (RowAt → Bool) → List RowAt → Type 0
LeaveSet old new swept = (r : RowAt) → new r ≡ (if is_among swept r then false else old r)
