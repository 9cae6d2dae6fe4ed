-- What holds of an open vacuum, and what its sections do.
use Rattle.std.specs.Prelude.{◌≡◌, ℕ, ◌+◌, ◌-◌, ◌^◌, ◌<◌, ◌≤◌, Bool, true, false, nat_lt, min, List, [], ◌∷◌, length, Option, Some, None}
use Rattle.spg_base.specs.Row.{RowAt}
use Rattle.spg_opclass.specs.Meaning.{Meaning}
use Rattle.spg_forest.specs.View.{Place}
use Rattle.spg_forest.specs.Steps.{HasRow}
use Rattle.spg_forest.specs.Puts.{spreads}
use Rattle.spg_forest.specs.Section.{Takes}
use Rattle.spg_forest.specs.Shape.{Shape}
use Rattle.spg_cover.specs.Vacuum.{VacuumHolds, Of, IsLess, listed}
use Rattle.spg_tree.specs.Table.{Table, sheet_at, latch_at, with_touched, sheets_of}
use Rattle.spg_vacuum.specs.declared.done.Done.{Done}
use Rattle.spg_vacuum.specs.declared.done.Done.TheVariants.{Swept, Latched}
use Rattle.spg_vacuum.specs.declared.done.Work.{Work}
use Rattle.spg_vacuum.specs.declared.done.Work.TheVariants as works
use Rattle.spg_vacuum.specs.declared.vacuum.Vacuum.{Vacuum}
use Rattle.spg_vacuum.specs.Latch.{IsFree, IsHolder}
use Rattle.spg_vacuum.specs.Listing.{with_listed, first_done, first_place}
use Rattle.spg_vacuum.specs.Handled.{HandlesBlock, HandlesPlace, found_at, found_from}

-- what is next: a place to do, else a block, else the end
abbrev pub work_at : List Place → Bool → Work
work_at (p ∷ ps) more = works.Pending
work_at [] true = works.Block
work_at [] false = works.Finish

abbrev pub work_of : Vacuum → Table → Work
work_of v t = work_at v.pending.todo (nat_lt v.next (length t.pages))

-- the block that is handled next: that of the first place to do, else the next one, and none at the end
abbrev pub block_at : List Place → ℕ → Bool → Option ℕ
block_at (p ∷ ps) next more = Some p.block
block_at [] next true = Some next
block_at [] next false = None

abbrev pub next_block : Vacuum → Table → Option ℕ
next_block v t = block_at v.pending.todo v.next (nat_lt v.next (length t.pages))

-- no other seat holds the block that a vacuum handles next
abbrev pub IsNextFree : Table → Vacuum → ℕ → Type 0
IsNextFree t v seat = (b : ℕ) → next_block v t ≡ Some b → IsFree t b seat

-- the block that a vacuum handles next and the other seat that holds it, where one does
abbrev pub IsNextHeld : Table → Vacuum → ℕ → Option (ℕ × ℕ) → Type 0
IsNextHeld t v seat None = IsNextFree t v seat
IsNextHeld t v seat (Some (block, by)) = (next_block v t ≡ Some block) × IsHolder t block seat (Some by)

-- these are the targets of an open vacuum, which is at a block from 1 on
pub record IsVacuum {Key Recon Cond : Type 0} (m : Meaning Key Recon Cond) (t : Table) (v : Vacuum) (target : RowAt → Type 0) : Type 0 where
  pub from : 0 < v.next
  pub past : v.stamp ≤ t.clock
  pub cover : VacuumHolds m (sheets_of t) v.stamp v.next v.pending.done v.pending.todo target

-- so many rows more are swept; their count stands still at 2^64 - 1
abbrev pub counted : Vacuum → List RowAt → Vacuum
counted v rows = record v { swept = min (v.swept + length rows) (2 ^ 64 - 1) }

-- the vacuum is one block further, and the places found are listed
abbrev pub after_block : Vacuum → List Place → List RowAt → Vacuum
after_block v found rows = record (counted v rows) { next = v.next + 1; pending = with_listed v.pending found }

-- the places found are listed, and the first place that was to do is done
abbrev pub after_place : Vacuum → List Place → List RowAt → Vacuum
after_place v found rows = record (counted v rows) { pending = first_done v.pending.done (listed v.pending.done v.pending.todo found) }

-- another seat holds the block b, and nothing changes
pub record IsBusy (t t2 : Table) (v v2 : Vacuum) (b seat block by : ℕ) : Type 0 where
  pub at : block ≡ b
  pub held : latch_at t b ≡ Some by
  pub other : by ≡ seat → ⊥
  pub table : t2 ≡ with_touched t []
  pub vacuum : v2 ≡ v

-- what a section that handles the next block does
abbrev pub BlockDone : Table → Table → Vacuum → Vacuum → (RowAt → Bool) → ℕ → ℕ → Done → Type 0
BlockDone t t2 v v2 test horizon seat (Swept rows) = IsFree t v.next seat × HandlesBlock t t2 v.next test horizon rows × (v2 ≡ after_block v (found_at v.stamp (sheet_at t v.next)) rows)
BlockDone t t2 v v2 test horizon seat (Latched block by) = IsBusy t t2 v v2 v.next seat block by

-- what a section that handles the pending place p does
abbrev pub PendingDone : Table → Table → Vacuum → Vacuum → Place → (RowAt → Bool) → ℕ → ℕ → Done → Type 0
PendingDone t t2 v v2 p test horizon seat (Swept rows) = IsFree t p.block seat × HandlesPlace (sheet_at t p.block).inner t t2 p test horizon rows × (v2 ≡ after_place v (found_from (sheet_at t p.block).inner v.stamp t p) rows)
PendingDone t t2 v v2 p test horizon seat (Latched block by) = IsBusy t t2 v v2 p.block seat block by

-- at the first place to do
abbrev pub FirstDone : Table → Table → Vacuum → Vacuum → (RowAt → Bool) → ℕ → ℕ → Done → Type 0
FirstDone t t2 v v2 test horizon seat done = (p : Place) → first_place v.pending.todo ≡ Some p → PendingDone t t2 v v2 p test horizon seat done

-- a section that swept takes just its rows, and what is left of the targets is covered
abbrev pub KeepsVacuum : {Key Recon Cond : Type 0} → Meaning Key Recon Cond → Table → Table → Vacuum → (RowAt → Bool) → ℕ → Done → Type 0
KeepsVacuum m t t2 v2 test horizon (Swept rows) = Takes m (sheets_of t) (sheets_of t2) t2.touched (spreads 0) horizon (HasRow rows) × ((left : RowAt → Bool) → IsLess left test rows → IsVacuum m t2 v2 (Of left))
KeepsVacuum m t t2 v2 test horizon (Latched block by) = Unit {0}

-- a vacuum at its end leaves no target
abbrev pub LeavesNone : {Key Recon Cond : Type 0} → Meaning Key Recon Cond → Table → Vacuum → Type 0
LeavesNone m t v = (targets : RowAt → Bool) → Shape m (sheets_of t) → IsVacuum m t v (Of targets) → (row : RowAt) → targets row ≡ true → ⊥
