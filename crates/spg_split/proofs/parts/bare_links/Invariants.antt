use Rattle.std.proofs.Common.{◌≡◌}
use Rattle.spg_descend.specs.BareNodes.{bare}
use Rattle.spg_split.proofs.parts.bare_links.Given as goal

abbrev pub invariant-loop-node : goal.invariant-loop-node
invariant-loop-node l = l.links ≡ bare l.node
