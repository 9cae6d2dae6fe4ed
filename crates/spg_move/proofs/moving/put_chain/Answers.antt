use Rattle.std.proofs.Common.{rules, ◌<◌, length, refl}
use Rattle.spg_move.proofs.Adding.{head_room, head_added, second_room, second_added, others_room, all_added}
use Rattle.spg_move.proofs.moving.put_chain.Goals as goal

pub add_to_chain-head-requires-clause-room : goal.add_to_chain-head-requires-clause-room
add_to_chain-head-requires-clause-room c =
    let some : 0 < length c.args.leaves.now = search rules in
    head_room c.args.page.now c.args.leaves.now c.index-leaves-0.result c.args.new.now c.requires.leaves some c.index-leaves-0.is c.requires.new c.requires.room

pub add_to_chain-second-requires-clause-head : goal.add_to_chain-second-requires-clause-head
add_to_chain-second-requires-clause-head c =
    let some : 0 < length c.args.leaves.now = search rules in
    (head_added c.args.page.now c.args.leaves.now c.index-leaves-0.result c.args.new.now c.requires.leaves some c.index-leaves-0.is c.requires.new c.requires.room c.add_to_chain-head.new.page c.add_to_chain-head.result c.add_to_chain-head.ensures.at c.add_to_chain-head.ensures.tuples).there

pub add_to_chain-second-requires-clause-room : goal.add_to_chain-second-requires-clause-room
add_to_chain-second-requires-clause-room c =
    let some : 0 < length c.args.leaves.now = search rules in
    second_room c.args.page.now c.args.leaves.now c.index-leaves-0.result c.args.new.now c.requires.leaves some c.index-leaves-0.is c.requires.new c.requires.room c.add_to_chain-head.new.page c.add_to_chain-head.result c.add_to_chain-head.ensures.at c.add_to_chain-head.ensures.tuples

pub put_behind-requires-clause-first : goal.put_behind-requires-clause-first
put_behind-requires-clause-first c =
    let some : 0 < length c.args.leaves.now = search rules in
    (second_added c.args.page.now c.args.leaves.now c.index-leaves-0.result c.args.new.now c.requires.leaves some c.index-leaves-0.is c.requires.new c.requires.room c.add_to_chain-head.new.page c.add_to_chain-head.result c.add_to_chain-head.ensures.at c.add_to_chain-head.ensures.tuples
    c.add_to_chain-second.new.page c.add_to_chain-second.result c.add_to_chain-second.ensures.at c.add_to_chain-second.ensures.tuples).there

pub put_behind-requires-clause-room : goal.put_behind-requires-clause-room
put_behind-requires-clause-room c =
    let some : 0 < length c.args.leaves.now = search rules in
    others_room c.args.page.now c.args.leaves.now c.index-leaves-0.result c.args.new.now c.requires.leaves some c.index-leaves-0.is c.requires.new c.requires.room c.add_to_chain-head.new.page c.add_to_chain-head.result c.add_to_chain-head.ensures.at c.add_to_chain-head.ensures.tuples
    c.add_to_chain-second.new.page c.add_to_chain-second.result c.add_to_chain-second.ensures.at c.add_to_chain-second.ensures.tuples _ refl

pub returns-clause-tuples : goal.returns-clause-tuples
returns-clause-tuples c =
    let some : 0 < length c.args.leaves.now = search rules in
    all_added c.args.page.now c.args.leaves.now c.index-leaves-0.result c.args.new.now c.requires.leaves some c.index-leaves-0.is c.requires.new c.requires.room c.add_to_chain-head.new.page c.add_to_chain-head.result c.add_to_chain-head.ensures.at c.add_to_chain-head.ensures.tuples
    c.add_to_chain-second.new.page c.add_to_chain-second.result c.add_to_chain-second.ensures.at c.add_to_chain-second.ensures.tuples c.put_behind.new.page _ refl c.put_behind.ensures
