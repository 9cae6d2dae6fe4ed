use Rattle.std.proofs.Common.{length}
use Rattle.spg_script.proofs.SequenceLines.{ReadCommands}
use Rattle.spg_script.proofs.sequence.parse_sequence.Given as goal

abbrev pub invariant-loop-rest : goal.invariant-loop-rest
invariant-loop-rest l = ReadCommands l.fn.bytes l.reader l.rest l.number

abbrev pub decreases-loop-rest : goal.decreases-loop-rest
decreases-loop-rest l = length l.rest
