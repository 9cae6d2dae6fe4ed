use Rattle.std.proofs.Common.{◌≡◌, ◌<◌, ℕ, vec_len, get_or}
use Rattle.spg_build.proofs.division.bare_counts.Given as goal

abbrev pub invariant-loop-node : goal.invariant-loop-node
invariant-loop-node l = record {
  count : vec_len l.counts ≡ l.node;
  bare : (j : ℕ) (d : _) → j < l.node → get_or l.counts.items j d ≡ 0;
}
