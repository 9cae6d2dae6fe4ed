use Rattle.std.proofs.Common.{length}
use Rattle.spg_script.specs.Steps.{place_of}
use Rattle.spg_script.proofs.ReadLines.{ReadSoFar}
use Rattle.spg_script.proofs.parsing.parse.Given as goal

abbrev pub invariant-loop-rest : goal.invariant-loop-rest
invariant-loop-rest l = ReadSoFar l.fn.bytes (place_of l.reader) l.rest l.number

abbrev pub decreases-loop-rest : goal.decreases-loop-rest
decreases-loop-rest l = length l.rest
