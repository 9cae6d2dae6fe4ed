use Rattle.std.proofs.Common.{◌≡◌}
use Rattle.spg_opclass.specs.Copies.{downs, first_nodes}
use Rattle.spg_opclass.proofs.chosen.recons_below.Given as goal

abbrev pub invariant-loop-node : goal.invariant-loop-node
invariant-loop-node g l = l.recons ≡ downs g.O.OpClass.meaning l.recon l.tuple (first_nodes l.node)
