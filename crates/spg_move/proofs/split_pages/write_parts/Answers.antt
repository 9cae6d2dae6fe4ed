use Rattle.spg_move.proofs.SplitPages.{child_there}
use Rattle.spg_move.proofs.split_pages.write_parts.Goals as goal

pub relink-requires-clause-node : goal.relink-requires-clause-node
relink-requires-clause-node c = child_there c.args.table.now c.put_at.new.self c.add_on-offset.new.self c.args.at c.args.child c.args.home c.args.upper.now c.args.lower.now c.requires.may c.requires.home.1 c.requires.node c.put_at.ensures c.add_on-offset.ensures.table
