use Rattle.std.proofs.Common.{◌≡◌, ◌++◌}
use Rattle.std.specs.Vec.Iter.{into_iter_items}
use Rattle.spg_build.specs.Runs.{posts_in}
use Rattle.spg_build.proofs.run.join_runs.Given as goal

abbrev pub invariant-loop-run : goal.invariant-loop-run
invariant-loop-run g l = l.posts.items ++ posts_in (into_iter_items l.run-iterator) ≡ posts_in l.fn.runs.items
