use Rattle.spg_move.proofs.NodeMoved.{hung_after}
use Rattle.spg_move.proofs.node_write.shift.Goals as goal

pub write_shifted-to-requires-clause-hung : goal.write_shifted-to-requires-clause-hung
write_shifted-to-requires-clause-hung c = hung_after c.args.table.now c.pick.new.self c.args.at.now c.args.parent.now c.args.node c.in_ok-block.ensures.picked.tuples c.in_ok-block.ensures.picked.least c.requires.hung
