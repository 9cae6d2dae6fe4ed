use Rattle.std.specs.BTreeSet.{contains}
use Rattle.spg_base.specs.Row.{row_cmp}
use Rattle.spg_chain.proofs.Renewing.{Renewing}
use Rattle.spg_chain.proofs.rewrite.rewrite.Given as goal

abbrev pub invariant-loop-left : goal.invariant-loop-left
invariant-loop-left l = Renewing (contains row_cmp l.targets.rows) l.fn.page l.offsets l.page l.first l.left

abbrev pub decreases-loop-left : goal.decreases-loop-left
decreases-loop-left l = l.left
