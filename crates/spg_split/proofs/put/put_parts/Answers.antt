use Rattle.std.proofs.Common.{length, take, ap, ◌∙◌, subst, arith}
use Rattle.std.proofs.lemmas.List.{length-take-le}
use Rattle.spg_tree.specs.Table.{tuples_at}
use Rattle.spg_tree.specs.Pick.{Picks}
use Rattle.spg_tree.specs.Picked.{IsPicked}
use Rattle.spg_tree.specs.declared.want.Want.{Want}
use Rattle.spg_forest.specs.Sheets.{Sheet}
use Rattle.spg_split.proofs.Picking.{picked_room, puts_lists}
use Rattle.spg_split.proofs.Totals.{take_live, lists_room}
use Rattle.spg_split.proofs.put.put_parts.Goals as goal

pub write_parts-requires-clause-leaves : goal.write_parts-requires-clause-leaves
write_parts-requires-clause-leaves c = rw c.as_slice.ensures (take_live c.args.parts.leaves c.args.count c.requires.parts.leaves)

pub write_parts-requires-clause-room : goal.write_parts-requires-clause-room
write_parts-requires-clause-room c =
    let p = subst (λ (w : Want). IsPicked c.args.table.now w c.in_ok-block.block c.pick.new.self) c.leaf-want.ensures c.in_ok-block.ensures.picked in
    let e = p.tuples c.in_ok-block.block in
    let w = c.requires.fits c.in_ok-block.block in
    let k = length-take-le c.args.count c.args.parts.leaves c.requires.count in
    let each = c.requires.parts.each in
    let s = c.requires.count in
    rw (c.as_slice.ensures, c.as_slice-2.ensures)
    (lists_room (tuples_at c.pick.new.self c.in_ok-block.block) (take c.args.count c.args.parts.leaves) c.args.parts.node_of (length c.args.parts.links) (rw e w) (take_live c.args.parts.leaves c.args.count c.requires.parts.leaves) (omega arith) c.requires.parts.there
    (picked_room (tuples_at c.pick.new.self c.in_ok-block.block) (take c.args.count c.as_slice.result.now) (take c.args.count c.args.parts.leaves) c.bytes_of-need.result c.args.count p.room c.bytes_of-need.ensures (ap (take c.args.count) c.as_slice.ensures) k))

pub returns-clause-ok : goal.returns-clause-ok
returns-clause-ok c =
    let k = length-take-le c.args.count c.args.parts.leaves c.requires.count in
    puts_lists c.args.table.now c.pick.new.self c.write_parts.new.table c.args.root c.in_ok-block.block c.args.seat c.args.parts (take c.args.count c.as_slice.result.now) (take c.args.count c.args.parts.leaves) c.as_slice-2.result.now c.is_nulls-nulls.result c.bytes_of-need.result c.args.count
    (ap (take c.args.count) c.as_slice.ensures) c.as_slice-2.ensures (c.is_nulls-nulls.ensures ∙ ap (λ (s : Sheet). s.nulls) c.page.ensures) c.bytes_of-need.ensures k (subst (λ (w : Want). Picks c.args.table.now w c.in_ok-block.block c.pick.new.self) c.leaf-want.ensures c.in_ok-block.ensures.ok) (subst (λ (w : Want). IsPicked c.args.table.now w c.in_ok-block.block c.pick.new.self) c.leaf-want.ensures c.in_ok-block.ensures.picked) c.write_parts.ensures
