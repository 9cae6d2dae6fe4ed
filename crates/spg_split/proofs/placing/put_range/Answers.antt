use Rattle.std.proofs.Common.{arith}
use Rattle.spg_split.specs.Placing.{taken_by}
use Rattle.spg_split.proofs.Lists.{placing_begun, next_room, next_placed, placing_done}
use Rattle.spg_split.proofs.placing.put_range.Goals as goal

pub loop-node-init : goal.loop-node-init
loop-node-init c = placing_begun c.args.page.now (λ j. taken_by j c.args.leaves.now c.args.node_of.now) c.args.from c.args.to c.args.block c.args.links.now c.requires.within.0 c.requires.room

pub put_list-head-requires-clause-room : goal.put_list-head-requires-clause-room
put_list-head-requires-clause-room c = next_room c.args.page.now (λ j. taken_by j c.args.leaves.now c.args.node_of.now) c.args.from c.args.to c.args.block c.args.links.now c.loop-node.page c.loop-node.links c.loop-node.node c.loop-node.invariant c.loop-node-test.true

pub loop-node-preserved : goal.loop-node-preserved
loop-node-preserved c =
    let P = next_placed c.args.page.now (λ j. taken_by j c.args.leaves.now c.args.node_of.now) c.args.from c.args.to c.args.block c.args.links.now c.loop-node.page c.loop-node.links c.loop-node.node c.put_list-head.new.page c.put_list-head.result c.link_to.result c.loop-node.invariant c.loop-node-test.true c.requires.within.1 c.put_list-head.ensures.head c.put_list-head.ensures.tuples c.link_to.ensures in
    rw c.set.ensures P

pub returns-clause-tuples : goal.returns-clause-tuples
returns-clause-tuples c = (placing_done c.args.page.now (λ j. taken_by j c.args.leaves.now c.args.node_of.now) c.args.from c.args.to c.args.block c.args.links.now c.loop-node.page c.loop-node.links c.loop-node.node c.loop-node.invariant (let h = c.loop-node-test.false in omega arith)).0

pub returns-clause-links : goal.returns-clause-links
returns-clause-links c = (placing_done c.args.page.now (λ j. taken_by j c.args.leaves.now c.args.node_of.now) c.args.from c.args.to c.args.block c.args.links.now c.loop-node.page c.loop-node.links c.loop-node.node c.loop-node.invariant (let h = c.loop-node-test.false in omega arith)).1
