use Rattle.spg_split.specs.Placing.{taken_by}
use Rattle.spg_split.proofs.Sizes.{stays_more}
use Rattle.spg_split.proofs.plan.stay_count.Goals as goal

pub loop-node-preserved : goal.loop-node-preserved
loop-node-preserved c = stays_more (λ j. taken_by j c.args.leaves.now c.args.node_of.now) c.args.left c.args.nodes c.loop-node.rest c.in-Some.after c.list_size.result c.loop-node.node c.loop-node.invariant c.loop-node-test.true c.list_size.ensures c.in-Some.ensures
