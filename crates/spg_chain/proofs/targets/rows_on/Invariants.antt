use Rattle.std.proofs.Common.{◌≡◌, take}
use Rattle.std.specs.BTreeSet.{contains}
use Rattle.spg_base.specs.Row.{row_cmp}
use Rattle.spg_cover.specs.Swept.{targets_on}
use Rattle.spg_chain.proofs.targets.rows_on.Given as goal

abbrev pub invariant-loop-index : goal.invariant-loop-index
invariant-loop-index l = l.rows ≡ targets_on (contains row_cmp l.targets.rows) (take l.index l.page.tuples)
