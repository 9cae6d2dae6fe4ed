use Rattle.std.proofs.Common.{◌≡◌, drop}
use Rattle.std.specs.List.{list_all}
use Rattle.spg_script.specs.Line.{is_in_name}
use Rattle.spg_script.proofs.names.are_in_name.Given as goal

abbrev pub invariant-loop-b : goal.invariant-loop-b
invariant-loop-b l = list_all is_in_name (drop l.b-index l.bytes) ≡ list_all is_in_name l.bytes
