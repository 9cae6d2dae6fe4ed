use Rattle.std.proofs.Common.{◌≡◌, ◌+◌, drop}
use Rattle.spg_script.specs.Reading.{len_before}
use Rattle.spg_script.proofs.bytes.len_before.Given as goal

abbrev pub invariant-loop-i : goal.invariant-loop-i
invariant-loop-i l = l.i + len_before l.stop (drop l.i l.bytes) ≡ len_before l.stop l.bytes
