use Rattle.std.proofs.Common.{◌≡◌, ◌<◌, ℕ, List as Items, vec_len, slice_index_or}
use Rattle.spg_script.specs.declared.command.Command.{Command as Asked}
use Rattle.spg_perform.specs.Posts.{IsVacant}
use Rattle.spg_perform.proofs.post.posts_for.Given as goal

abbrev pub invariant-loop-lane : goal.invariant-loop-lane
invariant-loop-lane g l = record {
  count : vec_len l.posts ≡ l.lane-index;
  vacant : (i : ℕ) (d : _) (c : Items Asked) → i < l.lane-index → IsVacant (slice_index_or l.lanes i c) (slice_index_or l.posts.items i d).task;
}
