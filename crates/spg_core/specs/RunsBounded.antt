-- The bounds hold after any calls of any seats in any order.
use Rattle.std.specs.Prelude.{ℕ, List}
use Rattle.spg_opclass.specs.Meaning.{Meaning}
use Rattle.spg_seats.specs.Slots.{Fields, IsKept}
use Rattle.spg_core.specs.Runs.{Call, Runs}
use Rattle.spg_bounds.specs.Bounds.{IsBounded}

-- what a state keeps of the account is kept
abbrev pub RunsBounded : (O Key Recon Cond : Type 0) → Meaning Key Recon Cond → Type 0
RunsBounded O Key Recon Cond m = (s s2 : Fields O Key Recon Cond) (calls : List (ℕ × Call O Key Recon Cond)) → IsKept m s → IsBounded m s → Runs m s calls s2 → IsBounded m s2
