use Rattle.std.proofs.Common.{◌≡◌, ℕ, map, take}
use Rattle.spg_opclass.proofs.sifted.keep_nodes.Given as goal

abbrev pub invariant-loop-node : goal.invariant-loop-node
invariant-loop-node g l = l.nodes ≡ map (λ (i : ℕ). (i, g.O.OpClass.meaning.down l.recon l.tuple i)) (take l.node-index l.node-items)
