use Rattle.std.proofs.Common.{◌≡◌, ◌*◌, take}
use Rattle.spg_core.specs.Counts.{counts_in, AreAtMost}
use Rattle.spg_core.proofs.stat.count_all.Given as goal

abbrev pub invariant-loop-block : goal.invariant-loop-block
invariant-loop-block l = (l.counts ≡ counts_in (take l.block l.table.pages)) × AreAtMost (408 * l.block) l.counts
