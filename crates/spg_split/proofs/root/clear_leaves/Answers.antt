use Rattle.spg_split.proofs.Clearing.{last_live}
use Rattle.spg_split.proofs.root.clear_leaves.Goals as goal

pub remove-requires-clause-live : goal.remove-requires-clause-live
remove-requires-clause-live c = rw c.loop-left.invariant.0 (last_live c.args.page.now.tuples c.loop-left.left c.requires c.loop-left.invariant.1 c.loop-left-test.true).1
