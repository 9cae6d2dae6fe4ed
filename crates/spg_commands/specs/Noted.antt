-- A book of records as contracts see it.
use Rattle.std.specs.Prelude.{ℕ, List}
use Rattle.spg_report.specs.declared.record.Record.{Record}

-- the records so far, and for how many more there is room
pub record Noted : Type 0 where
  pub records : List Record
  pub spare : ℕ
