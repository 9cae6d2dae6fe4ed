use Rattle.std.proofs.Common.{◌≡◌, ◌++◌, take}
use Rattle.spg_move.proofs.node_tuple.push_all.Given as goal

abbrev pub invariant-loop-node : goal.invariant-loop-node
invariant-loop-node l = l.longer ≡ l.fn.longer ++ take l.node-index l.nodes
