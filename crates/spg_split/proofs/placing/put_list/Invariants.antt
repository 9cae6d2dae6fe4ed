use Rattle.std.proofs.Common.{drop}
use Rattle.spg_split.specs.Placing.{taken_by}
use Rattle.spg_split.proofs.Growing.{IsGrowing}
use Rattle.spg_split.proofs.placing.put_list.Given as goal

abbrev pub invariant-loop-index : goal.invariant-loop-index
invariant-loop-index l = IsGrowing l.fn.page (taken_by l.fn.node l.fn.leaves l.fn.node_of) l.page l.ends (taken_by l.node (drop l.index l.leaves) (drop l.index l.node_of))
