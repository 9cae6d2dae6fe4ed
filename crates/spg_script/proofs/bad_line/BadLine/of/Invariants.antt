use Rattle.std.proofs.Common.{◌-◌, length}
use Rattle.spg_script.specs.Script.{lines_of}
use Rattle.spg_script.proofs.Wantings.{LinesLeft}
use Rattle.spg_script.proofs.bad_line.BadLine.of.Given as goal

abbrev pub invariant-loop-next : goal.invariant-loop-next
invariant-loop-next l = LinesLeft (lines_of l.fn.bytes) l.number l.spot (lines_of l.rest) (l.number - l.next)

abbrev pub decreases-loop-next : goal.decreases-loop-next
decreases-loop-next l = length l.rest
