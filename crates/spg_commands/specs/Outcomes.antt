-- The outcome of a command, by what its call answered.
use Rattle.std.specs.Prelude.{ℕ, Bool, true, false, Option, Some, None, Result, Ok, Err}
use Rattle.spg_base.specs.declared.memory.Memory.{Memory}
use Rattle.spg_scan.specs.declared.walk.Closed.{Closed}
use Rattle.spg_report.specs.declared.outcome.Outcome.{Outcome}
use Rattle.spg_report.specs.declared.outcome.Outcome.TheVariants as outcome
use Rattle.spg_whole.specs.declared.refused.InsertRefused.{InsertRefused}
use Rattle.spg_whole.specs.declared.refused.InsertRefused.TheVariants as refused

abbrev pub refused_outcome : InsertRefused → Outcome
refused_outcome refused.RowUsed = outcome.RowUsed
refused_outcome refused.IndexFull = outcome.Full
refused_outcome refused.ClockFull = outcome.ClockFull
refused_outcome refused.Memory = outcome.Memory

abbrev pub insert_outcome : Result (Unit {0}) InsertRefused → Outcome
insert_outcome (Ok x) = outcome.Added
insert_outcome (Err e) = refused_outcome e

abbrev pub delete_outcome : Result Bool Memory → Outcome
delete_outcome (Ok true) = outcome.Killed
delete_outcome (Ok false) = outcome.NotLive
delete_outcome (Err e) = outcome.Memory

abbrev pub find_outcome : Result Closed Memory → Outcome
find_outcome (Ok closed) = outcome.Found closed.rows (Some closed.met)
find_outcome (Err e) = outcome.Memory

abbrev pub vacuum_outcome : Result ℕ Memory → Outcome
vacuum_outcome (Ok swept) = outcome.Vacuumed swept
vacuum_outcome (Err e) = outcome.Memory
