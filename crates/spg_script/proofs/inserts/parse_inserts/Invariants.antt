use Rattle.std.proofs.Common.{length}
use Rattle.spg_script.specs.Inserts.{insert_place}
use Rattle.spg_script.proofs.ReadLines.{ReadSoFar}
use Rattle.spg_script.proofs.inserts.parse_inserts.Given as goal

abbrev pub invariant-loop-rest : goal.invariant-loop-rest
invariant-loop-rest l = ReadSoFar l.fn.bytes (insert_place l.reader) l.rest l.number

abbrev pub decreases-loop-rest : goal.decreases-loop-rest
decreases-loop-rest l = length l.rest
