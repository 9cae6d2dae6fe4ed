use Rattle.std.proofs.Common.{◌≡◌, take}
use Rattle.spg_core.specs.Counts.{counts_on, AreAtMost}
use Rattle.spg_core.proofs.stat.count_page.Given as goal

abbrev pub invariant-loop-index : goal.invariant-loop-index
invariant-loop-index l = (l.counts ≡ counts_on (take l.index l.page.tuples)) × AreAtMost l.index l.counts
