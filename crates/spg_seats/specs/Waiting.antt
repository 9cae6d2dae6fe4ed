-- For which seat a swept row waits, as the stages tell.
use Rattle.std.specs.Prelude.{◌≡◌, ℕ, zero, suc, Bool, true, false, List, Option, Some, None, nat_lt, reverse}
use Rattle.spg_base.specs.Row.{RowAt}
use Rattle.spg_opclass.specs.Meaning.{Meaning}
use Rattle.spg_rows.specs.declared.table.RowState.TheVariants as row_state
use Rattle.spg_rows.specs.Held.{or_then}
use Rattle.spg_rows.specs.Rows.{held_by, state_of}
use Rattle.spg_rows.specs.Vacuums.{find_end}
use Rattle.spg_seats.specs.Slots.{Stage, free, descending, reading, sweeping, stage_in, Fields, IsKept}

-- a scan that was open at the position
abbrev pub reads_at : {O Key Recon Cond : Type 0} → ℕ → Stage O Key Recon Cond → Bool
reads_at at free = false
reads_at at (descending key d) = false
reads_at at (reading s) = nat_lt s.at at
reads_at at (sweeping v) = false

abbrev pub is_sweeping : {O Key Recon Cond : Type 0} → Stage O Key Recon Cond → Bool
is_sweeping free = false
is_sweeping (descending key d) = false
is_sweeping (reading s) = false
is_sweeping (sweeping v) = true

-- the lowest seat below `count` whose stage the test answers
abbrev pub lowest_seat : {O Key Recon Cond : Type 0} → (Stage O Key Recon Cond → Bool) → ℕ → List (Stage O Key Recon Cond) → Option ℕ
lowest_seat test zero stages = None
lowest_seat test (suc count) stages = or_then (lowest_seat test count stages) (test (stage_in stages count)) count

-- whom a row waits for that a vacuum swept: the vacuum's seat until it ends, and then the lowest seat whose scan was open at its end
abbrev pub waits_by : {O Key Recon Cond : Type 0} → Option ℕ → List (Stage O Key Recon Cond) → Option ℕ
waits_by None stages = lowest_seat is_sweeping 64 stages
waits_by (Some at) stages = lowest_seat (reads_at at) 64 stages

-- a row that was swept waits for just that seat
abbrev pub WaitsTell : (O Key Recon Cond : Type 0) → Meaning Key Recon Cond → Type 0
WaitsTell O Key Recon Cond m = (s : Fields O Key Recon Cond) (r : RowAt) (vacuum : ℕ) → IsKept m s → state_of r (reverse s.journal) ≡ row_state.Swept vacuum → held_by r (reverse s.journal) ≡ waits_by (find_end vacuum s.vacuums) s.stages
