use Rattle.std.proofs.Common.{◌≡◌, ◌≤◌, ◌++◌, vec_len}
use Rattle.std.specs.Vec.Iter.{into_iter_items}
use Rattle.spg_build.specs.Posts.{groups_at}
use Rattle.spg_build.specs.Runs.{posts_in}
use Rattle.spg_build.proofs.run.runs_for.Given as goal

abbrev pub invariant-loop-group : goal.invariant-loop-group
invariant-loop-group g l = record {
  groups : groups_at (posts_in l.runs.items ++ l.posts.items) ++ into_iter_items l.group-iterator ≡ l.fn.round;
  few : vec_len l.runs ≤ l.worker;
  most : l.worker ≤ l.last;
}
