use Rattle.std.proofs.Common.{◌≡◌, ◌+◌, ◌<◌, ℕ, vec_len, get_or, drop}
use Rattle.spg_build.specs.Counts.{count_in}
use Rattle.spg_build.proofs.division.counts_of.Given as goal

abbrev pub invariant-loop-index : goal.invariant-loop-index
invariant-loop-index l = record {
  count : vec_len l.counts ≡ l.count;
  each : (j : ℕ) (d : _) → j < l.count → get_or l.counts.items j d + count_in j (drop l.index l.node_of) ≡ count_in j l.node_of;
}
