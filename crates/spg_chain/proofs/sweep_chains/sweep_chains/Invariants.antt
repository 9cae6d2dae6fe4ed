use Rattle.std.specs.BTreeSet.{contains}
use Rattle.spg_base.specs.Row.{row_cmp}
use Rattle.spg_chain.proofs.Sweeping.{Sweeping}
use Rattle.spg_chain.proofs.sweep_chains.sweep_chains.Given as goal

abbrev pub invariant-loop-index : goal.invariant-loop-index
invariant-loop-index l = Sweeping (contains row_cmp l.targets.rows) l.fn.page l.page l.index
