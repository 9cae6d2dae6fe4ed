use Rattle.std.proofs.Common.{◌≡◌, ◌^◌, drop}
use Rattle.spg_script.specs.Reading.{value_from}
use Rattle.spg_script.proofs.numbers.value_behind.Given as goal

abbrev pub invariant-loop-b : goal.invariant-loop-b
invariant-loop-b l = value_from (2 ^ 64) l.value (drop l.b-index l.bytes) ≡ value_from (2 ^ 64) l.begun l.bytes
