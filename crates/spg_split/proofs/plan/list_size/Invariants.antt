use Rattle.spg_split.proofs.Sizes.{IsSizing}
use Rattle.spg_split.proofs.plan.list_size.Given as goal

abbrev pub invariant-loop-index : goal.invariant-loop-index
invariant-loop-index l = IsSizing l.node l.leaves l.node_of l.size l.index
