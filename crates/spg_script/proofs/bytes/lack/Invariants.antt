use Rattle.std.proofs.Common.{◌≡◌, take}
use Rattle.std.specs.List.{list_all}
use Rattle.spg_script.specs.Reading.{is_other}
use Rattle.spg_script.proofs.bytes.lack.Given as goal

abbrev pub invariant-loop-b : goal.invariant-loop-b
invariant-loop-b l = l.others ≡ list_all (is_other l.stop) (take l.b-index l.bytes)
