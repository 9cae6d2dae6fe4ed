-- Who holds a block.
use Rattle.std.specs.Prelude.{◌≡◌, ℕ, Option, Some, None}
use Rattle.spg_tree.specs.Table.{Table, latch_at}

-- no other seat holds the block
abbrev pub IsFree : Table → ℕ → ℕ → Type 0
IsFree t b seat = (by : ℕ) → latch_at t b ≡ Some by → by ≡ seat

-- the other seat that holds it, where one does
abbrev pub IsHolder : Table → ℕ → ℕ → Option ℕ → Type 0
IsHolder t b seat None = IsFree t b seat
IsHolder t b seat (Some by) = (latch_at t b ≡ Some by) × (by ≡ seat → ⊥)
