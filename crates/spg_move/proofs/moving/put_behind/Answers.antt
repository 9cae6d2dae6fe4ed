use Rattle.std.proofs.Common.{arith}
use Rattle.spg_chain.specs.Listed.{leaves_in}
use Rattle.spg_move.proofs.Adding.{adding_begun, next_leaf, next_room, next_added, adding_done}
use Rattle.spg_move.proofs.moving.put_behind.Goals as goal

pub loop-leaf-init : goal.loop-leaf-init
loop-leaf-init c = adding_begun c.args.page.now c.args.first (leaves_in c.args.leaves.now) c.requires.first c.requires.room

pub add_to_chain-last-requires-clause-head : goal.add_to_chain-last-requires-clause-head
add_to_chain-last-requires-clause-head c = c.loop-leaf.invariant.there

pub add_to_chain-last-requires-clause-leaf : goal.add_to_chain-last-requires-clause-leaf
add_to_chain-last-requires-clause-leaf c = next_leaf c.args.leaves.now c.loop-leaf.leaf-index c.leaf-item.result c.requires.leaves c.loop-leaf-test.true c.leaf-item.is

pub add_to_chain-last-requires-clause-room : goal.add_to_chain-last-requires-clause-room
add_to_chain-last-requires-clause-room c = next_room c.args.page.now c.args.first (leaves_in c.args.leaves.now) c.loop-leaf.page c.loop-leaf.last c.args.leaves.now c.loop-leaf.leaf-index c.leaf-item.result c.loop-leaf.invariant c.requires.leaves c.loop-leaf-test.true c.leaf-item.is

pub loop-leaf-preserved : goal.loop-leaf-preserved
loop-leaf-preserved c = next_added c.args.page.now c.args.first (leaves_in c.args.leaves.now) c.loop-leaf.page c.loop-leaf.last c.args.leaves.now c.loop-leaf.leaf-index c.leaf-item.result c.add_to_chain-last.new.page c.add_to_chain-last.result c.loop-leaf.invariant c.loop-leaf-test.true c.leaf-item.is c.add_to_chain-last.ensures.at c.add_to_chain-last.ensures.tuples

pub returns : goal.returns
returns c = adding_done c.args.page.now c.args.first c.loop-leaf.page c.loop-leaf.last c.args.leaves.now c.loop-leaf.leaf-index c.loop-leaf.invariant (let h = c.loop-leaf-test.false in omega arith)
