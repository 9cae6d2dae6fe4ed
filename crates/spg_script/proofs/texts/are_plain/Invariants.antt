use Rattle.std.proofs.Common.{◌≡◌, take}
use Rattle.std.specs.List.{list_all}
use Rattle.spg_script.specs.Quoted.{is_plain}
use Rattle.spg_script.proofs.texts.are_plain.Given as goal

abbrev pub invariant-loop-b : goal.invariant-loop-b
invariant-loop-b l = l.plain ≡ list_all is_plain (take l.b-index l.bytes)
