-- Since when an operation is open.
use Rattle.std.specs.Prelude.{ℕ, Option, Some, None}
use Rattle.spg_core.specs.Stage.{Stage, free, descending, reading, sweeping}

-- the position in the journal and the clock at which a scan or a vacuum opened
abbrev pub opened_at : {O Key Recon Cond : Type 0} → Stage O Key Recon Cond → Option (ℕ × ℕ)
opened_at free = None
opened_at (descending key d) = None
opened_at (reading s) = Some (s.at, s.stamp)
opened_at (sweeping v) = Some (v.at, v.stamp)
