use Rattle.std.proofs.Common.{◌≡◌, ◌<◌, ◌^◌, drop}
use Rattle.spg_script.specs.Reading.{value_from}
use Rattle.spg_script.proofs.Values.{if_small, spelled_from}
use Rattle.spg_script.proofs.numbers.value.Given as goal

abbrev pub invariant-loop-b : goal.invariant-loop-b
invariant-loop-b l = (if_small (spelled_from l.value (drop l.b-index l.bytes)) ≡ value_from (2 ^ 32) 0 l.bytes) × (l.value < 10 ^ l.b-index)
