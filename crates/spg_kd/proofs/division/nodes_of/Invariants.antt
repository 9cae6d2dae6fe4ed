use Rattle.std.proofs.Common.{◌≡◌, ◌++◌, drop}
use Rattle.spg_kd.specs.Ties.{sides}
use Rattle.spg_kd.proofs.division.nodes_of.Given as goal

abbrev pub invariant-loop-k : goal.invariant-loop-k
invariant-loop-k l = l.nodes ++ sides l.p l.left (drop l.k-index l.ks) ≡ sides l.p l.fn.ties l.ks
