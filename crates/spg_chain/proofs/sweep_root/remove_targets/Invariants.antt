use Rattle.std.proofs.Common.{◌-◌, length}
use Rattle.std.specs.BTreeSet.{contains}
use Rattle.spg_base.specs.Row.{row_cmp}
use Rattle.spg_chain.proofs.Removing.{Removing}
use Rattle.spg_chain.proofs.sweep_root.remove_targets.Given as goal

abbrev pub invariant-loop-index : goal.invariant-loop-index
invariant-loop-index l = Removing (contains row_cmp l.targets.rows) l.fn.page l.page l.index

abbrev pub decreases-loop-index : goal.decreases-loop-index
decreases-loop-index l = length l.page.tuples - l.index
