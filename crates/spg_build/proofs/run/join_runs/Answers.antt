use Rattle.spg_build.specs.Runs.{posts_in}
use Rattle.spg_build.proofs.Turns.{none_left}
use Rattle.spg_build.proofs.Runs.{joined_end}
use Rattle.spg_build.proofs.run.join_runs.Goals as goal

pub returns : goal.returns
returns g c = joined_end c.loop-run.posts.items c.loop-run.run-iterator.rest.items (posts_in c.args.runs.items) (none_left c.loop-run.run-iterator.rest.items _ c.loop-run.run-iterator.rest.ok.0 c.in-None.ensures.steps.0) c.loop-run.invariant
