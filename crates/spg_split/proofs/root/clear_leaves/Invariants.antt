use Rattle.std.proofs.Common.{◌≡◌, ◌≤◌, length, take}
use Rattle.spg_forest.specs.Sheets.{with_tuples}
use Rattle.spg_split.proofs.root.clear_leaves.Given as goal

abbrev pub invariant-loop-left : goal.invariant-loop-left
invariant-loop-left l = (l.page ≡ with_tuples l.fn.page (take l.left l.fn.page.tuples)) × (l.left ≤ length l.fn.page.tuples)

abbrev pub decreases-loop-left : goal.decreases-loop-left
decreases-loop-left l = l.left
