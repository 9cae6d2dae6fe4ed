use Rattle.std.proofs.Common.{arith}
use Rattle.spg_kd.specs.KdLemmas.{sides_done}
use Rattle.spg_kd.proofs.division.nodes_of.Goals as goal

pub returns : goal.returns
returns c = sides_done c.loop-k.nodes c.args.p c.loop-k.left c.loop-k.k-index c.args.ks.now _ (omega arith) c.loop-k.invariant
