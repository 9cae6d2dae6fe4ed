use Rattle.std.proofs.Common.{◌≡◌, take}
use Rattle.spg_descend.specs.BareNodes.{nodes_of}
use Rattle.spg_descend.proofs.nodes.bare_nodes.Given as goal

abbrev pub invariant-loop-label : goal.invariant-loop-label
invariant-loop-label l = l.nodes ≡ nodes_of (take l.label-index l.labels)
