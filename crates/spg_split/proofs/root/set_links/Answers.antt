use Rattle.spg_forest.specs.Pages.{tuple_on}
use Rattle.spg_page.specs.Reads.{frame_in}
use Rattle.spg_split.proofs.Clearing.{links_begin, links_there, links_step}
use Rattle.spg_split.proofs.root.set_links.Goals as goal

pub loop-node-init : goal.loop-node-init
loop-node-init c = links_begin c.args.page.now c.args.at c.args.links.now c.requires.offset c.requires.inner

pub set_link-requires-clause-offset : goal.set_link-requires-clause-offset
set_link-requires-clause-offset c = (links_there c.args.page.now c.loop-node.page c.args.at (frame_in (tuple_on c.args.page.now.tuples c.args.at)) c.args.links.now c.loop-node.node c.index-links-node.result c.loop-node-test.true c.requires.offset c.requires.to c.loop-node.invariant c.index-links-node.is).0

pub set_link-requires-clause-node : goal.set_link-requires-clause-node
set_link-requires-clause-node c = (links_there c.args.page.now c.loop-node.page c.args.at (frame_in (tuple_on c.args.page.now.tuples c.args.at)) c.args.links.now c.loop-node.node c.index-links-node.result c.loop-node-test.true c.requires.offset c.requires.to c.loop-node.invariant c.index-links-node.is).1

pub set_link-requires-clause-to : goal.set_link-requires-clause-to
set_link-requires-clause-to c = (links_there c.args.page.now c.loop-node.page c.args.at (frame_in (tuple_on c.args.page.now.tuples c.args.at)) c.args.links.now c.loop-node.node c.index-links-node.result c.loop-node-test.true c.requires.offset c.requires.to c.loop-node.invariant c.index-links-node.is).2

pub loop-node-preserved : goal.loop-node-preserved
loop-node-preserved c = links_step c.args.page.now c.loop-node.page c.set_link.new.self c.args.at (frame_in (tuple_on c.args.page.now.tuples c.args.at)) c.args.links.now c.loop-node.node c.index-links-node.result c.loop-node-test.true c.requires.offset c.loop-node.invariant c.index-links-node.is c.set_link.ensures
