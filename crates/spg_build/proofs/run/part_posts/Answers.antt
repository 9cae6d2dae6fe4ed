use Rattle.std.proofs.Common.{◌∙◌}
use Rattle.spg_build.proofs.Runs.{parted_turn}
use Rattle.spg_build.proofs.run.part_posts.Goals as goal

pub loop-index-preserved : goal.loop-index-preserved
loop-index-preserved g c =
    let (done, left) = parted_turn g.O.OpClass.meaning c.args.posts.now.items c.loop-index.posts.items c.part_at.new.posts.items c.loop-index.index c.loop-index.invariant.done c.loop-index.invariant.left c.part_at.ensures.one in
    record { count = c.part_at.ensures.count ∙ c.loop-index.invariant.count; done = done; left = left }
