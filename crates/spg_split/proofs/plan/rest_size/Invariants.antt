use Rattle.spg_split.proofs.Sizes.{IsResting}
use Rattle.spg_split.proofs.plan.rest_size.Given as goal

abbrev pub invariant-loop-index : goal.invariant-loop-index
invariant-loop-index l = IsResting l.from l.leaves l.node_of l.size l.index
