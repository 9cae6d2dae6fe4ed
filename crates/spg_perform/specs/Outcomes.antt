-- The outcome of a search for the nearest rows, by what its call answered.
use Rattle.std.specs.Prelude.{Option, Some, None, Result, Ok, Err, ⊤}
use Rattle.spg_base.specs.declared.memory.Memory.{Memory}
use Rattle.spg_report.specs.declared.outcome.Outcome.{Outcome}
use Rattle.spg_report.specs.declared.outcome.Outcome.TheVariants as outcome
use Rattle.spg_served.specs.Serves.{Nearest}

abbrev pub near_outcome : Result (Option Nearest) Memory → Outcome
near_outcome (Ok (Some found)) = outcome.Near found.rows found.met
near_outcome (Ok None) = outcome.Memory
near_outcome (Err e) = outcome.Memory

-- the class has points for keys
abbrev pub IsAnswered : Result (Option Nearest) Memory → Type 0
IsAnswered (Ok None) = ⊥
IsAnswered (Ok (Some found)) = ⊤
IsAnswered (Err e) = ⊤
