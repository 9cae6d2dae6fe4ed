use Rattle.spg_split.specs.Placing.{taken_by}
use Rattle.spg_split.proofs.Sizes.{IsStaying}
use Rattle.spg_split.proofs.plan.stay_count.Given as goal

abbrev pub invariant-loop-node : goal.invariant-loop-node
invariant-loop-node l = IsStaying (λ j. taken_by j l.leaves l.node_of) l.fn.left l.nodes l.rest l.node
