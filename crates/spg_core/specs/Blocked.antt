-- Whether another seat has latched the block of a section that is to come.
use Rattle.std.specs.Prelude.{ℕ, Option, None}
use Rattle.spg_tree.specs.Table.{Table}
use Rattle.spg_scan.specs.Reading.{IsFreeFor}
use Rattle.spg_vacuum.specs.Vacuums.{IsNextHeld}
use Rattle.spg_core.specs.Stage.{Stage, free, descending, reading, sweeping}
use Rattle.spg_core.specs.Seen.{Seen, stage_at}

abbrev pub ItemFreeIn : {O Key Recon Cond : Type 0} → Table → Stage O Key Recon Cond → ℕ → ℕ → Type 0
ItemFreeIn t free seat item = ⊥
ItemFreeIn t (descending key d) seat item = ⊥
ItemFreeIn t (reading s) seat item = IsFreeFor t s item seat
ItemFreeIn t (sweeping v) seat item = ⊥

-- no other seat has latched the block of an item of the seat's scan
abbrev pub IsItemFree : {O Key Recon Cond : Type 0} → Seen O Key Recon Cond → ℕ → ℕ → Type 0
IsItemFree seen seat item = ItemFreeIn seen.table (stage_at seen seat) seat item

-- the block that the vacuum at this stage handles next and the other seat that has latched it, where one has
abbrev pub WorkHeldIn : {O Key Recon Cond : Type 0} → Table → Stage O Key Recon Cond → ℕ → Option (ℕ × ℕ) → Type 0
WorkHeldIn t free seat held = ⊥
WorkHeldIn t (descending key d) seat held = ⊥
WorkHeldIn t (reading s) seat held = ⊥
WorkHeldIn t (sweeping v) seat held = IsNextHeld t v seat held

-- no other seat has latched the block that the seat's vacuum handles next
abbrev pub IsWorkFree : {O Key Recon Cond : Type 0} → Seen O Key Recon Cond → ℕ → Type 0
IsWorkFree seen seat = WorkHeldIn seen.table (stage_at seen seat) seat None
