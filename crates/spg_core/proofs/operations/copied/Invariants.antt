use Rattle.std.proofs.Common.{◌≡◌, ◌≤◌, length, take}
use Rattle.std.specs.Prelude.{vec_capacity}
use Rattle.spg_core.proofs.operations.copied.Lts.Given as goal

abbrev pub invariant-loop-row : goal.Live-loop-row → Type 0
invariant-loop-row l = (l.told.items ≡ take l.row-index l.rows) × (l.row-index ≤ length l.rows) × (length l.rows ≤ vec_capacity l.told)
