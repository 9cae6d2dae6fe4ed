-- The outcome of a command, by what its call of a pair answered.
use Rattle.std.specs.Prelude.{None}
use Rattle.spg_scan.specs.declared.walk.Closed.{Closed}
use Rattle.spg_report.specs.declared.outcome.Outcome.{Outcome}
use Rattle.spg_report.specs.declared.outcome.Outcome.TheVariants as outcome
use Rattle.spg_standby.specs.declared.wrote.Wrote.{Wrote}
use Rattle.spg_standby.specs.declared.wrote.Wrote.TheVariants as came

abbrev pub wrote_outcome : Wrote → Outcome
wrote_outcome came.Added = outcome.Added
wrote_outcome came.RowUsed = outcome.RowUsed
wrote_outcome came.IndexFull = outcome.Full
wrote_outcome came.ClockFull = outcome.ClockFull
wrote_outcome came.Killed = outcome.Killed
wrote_outcome came.NotLive = outcome.NotLive
wrote_outcome (came.Vacuumed n) = outcome.Vacuumed n
wrote_outcome came.Memory = outcome.Memory

-- how many tuples were met is not told
abbrev pub found_outcome : Closed → Outcome
found_outcome closed = outcome.Found closed.rows None
