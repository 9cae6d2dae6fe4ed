use Rattle.std.proofs.Common.{◌≡◌, ◌<◌, ◌≤◌, ℕ, vec_len, get_or}
use Rattle.spg_build.specs.Posts.{IsParted}
use Rattle.spg_build.proofs.run.part_posts.Given as goal

abbrev pub invariant-loop-index : goal.invariant-loop-index
invariant-loop-index g l = record {
  count : vec_len l.posts ≡ vec_len l.initial.posts;
  done : (j : ℕ) (d : _) → j < l.index → IsParted g.O.OpClass.meaning (get_or l.initial.posts.items j d) (get_or l.posts.items j d);
  left : (j : ℕ) (d : _) → l.index ≤ j → get_or l.posts.items j d ≡ get_or l.initial.posts.items j d;
}
