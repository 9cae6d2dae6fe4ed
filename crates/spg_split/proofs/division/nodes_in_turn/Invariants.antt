use Rattle.std.proofs.Common.{◌≡◌}
use Rattle.spg_split.specs.Nodes.{turns}
use Rattle.spg_split.proofs.division.nodes_in_turn.Given as goal

abbrev pub invariant-loop-index : goal.invariant-loop-index
invariant-loop-index l = l.nodes ≡ turns l.index
