use Rattle.std.proofs.Common.{◌≡◌, ◌<◌, ◌^◌, drop}
use Rattle.spg_script.specs.Reading.{value_from}
use Rattle.spg_script.proofs.numbers.wide_value.Given as goal

abbrev pub invariant-loop-at : goal.invariant-loop-at
invariant-loop-at l = (value_from (2 ^ 64) l.value (drop l.at l.bytes) ≡ value_from (2 ^ 64) 0 l.bytes) × (l.value < 10 ^ l.at)
