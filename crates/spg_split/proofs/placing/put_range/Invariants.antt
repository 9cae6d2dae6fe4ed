use Rattle.spg_split.specs.Placing.{taken_by}
use Rattle.spg_split.proofs.Lists.{IsPlacing}
use Rattle.spg_split.proofs.placing.put_range.Given as goal

abbrev pub invariant-loop-node : goal.invariant-loop-node
invariant-loop-node l = IsPlacing l.fn.page (λ j. taken_by j l.fn.leaves l.fn.node_of) l.fn.from l.fn.to l.fn.block l.fn.links l.page l.links l.node
