use Rattle.std.proofs.Common.{rules, ◌+◌, length, None, Some, ap, sym, ◌∙◌, refl, subst, arith}
use Rattle.std.specs.Prelude.{IsErrOf}
use Rattle.spg_forest.specs.Sheets.{weight, size_of}
use Rattle.spg_page.specs.declared.tuple.PageKind.TheVariants as kinds
use Rattle.spg_tree.specs.Table.{Table, tuples_at}
use Rattle.spg_tree.specs.Pick.{Picks, IsFull}
use Rattle.spg_tree.specs.Picked.{IsPicked, want_of}
use Rattle.spg_tree.specs.declared.want.Want.{Want}
use Rattle.spg_tree.specs.declared.stand.StepRefused.TheVariants.{IndexFull}
use Rattle.spg_descend.proofs.Held.{picked_free}
use Rattle.spg_descend.proofs.NotFull.{picks_not_full}
use Rattle.spg_chain.specs.Listed.{HaveRoom}
use Rattle.spg_move.specs.Moves.{carried_want}
use Rattle.spg_move.specs.Moving.{moved_table}
use Rattle.spg_move.proofs.Standing.{total, need_small, count_small, want_is, leaves_are, live_are, chained_after, begins_after, parent_after, within_after, node_after, room_after, carried_moves, ticks, want_there, makes_none, exact}
use Rattle.spg_move.proofs.Held.{moved_held}
use Rattle.spg_move.proofs.Tables.{moves_table}
use Rattle.spg_move.proofs.chain.move_from.Goals as goal

pub chain_tuples-requires : goal.chain_tuples-requires
chain_tuples-requires g c =
    let a = total g.O.OpClass.meaning c.args.table.now c.args.descent.now c.args.at c.args.parent c.args.node c.requires.shape c.requires.stands c.requires.above c.requires.spot c.requires.short in
    rw c.page.ensures (omega arith)

pub bytes_of-requires : goal.bytes_of-requires
bytes_of-requires g c =
    let a = count_small g.O.OpClass.meaning c.args.table.now c.args.descent.now c.args.at c.args.parent c.args.node c.requires.shape c.requires.stands c.requires.above c.requires.spot c.requires.short c.page.result.now c.in_ok-leaves.leaves c.as_slice-2.result.now c.in_ok-new.new c.row.result c.as_slice.result.now (weight c.as_slice-2.result.now) (size_of c.in_ok-new.new) (length c.in_ok-leaves.leaves) c.page.ensures c.in_ok-leaves.ensures c.as_slice-2.ensures c.row.ensures (c.as_slice.ensures.value ∙ c.rest.ensures) c.in_ok-new.ensures refl refl refl in
    let b = ap length c.as_slice-2.ensures in omega arith

pub overflow_add-need : goal.overflow_add-need
overflow_add-need g c = let a = need_small g.O.OpClass.meaning c.args.table.now c.args.descent.now c.args.at c.args.parent c.args.node c.requires.shape c.requires.stands c.requires.above c.requires.spot c.requires.short c.page.result.now c.in_ok-leaves.leaves c.as_slice-2.result.now c.in_ok-new.new c.row.result c.as_slice.result.now c.bytes_of.result c.size.result (length c.in_ok-leaves.leaves) c.page.ensures c.in_ok-leaves.ensures c.as_slice-2.ensures c.row.ensures (c.as_slice.ensures.value ∙ c.rest.ensures) c.in_ok-new.ensures c.bytes_of.ensures c.size.ensures.value refl in omega arith

pub overflow_add-need-2 : goal.overflow_add-need-2
overflow_add-need-2 g c = let a = need_small g.O.OpClass.meaning c.args.table.now c.args.descent.now c.args.at c.args.parent c.args.node c.requires.shape c.requires.stands c.requires.above c.requires.spot c.requires.short c.page.result.now c.in_ok-leaves.leaves c.as_slice-2.result.now c.in_ok-new.new c.row.result c.as_slice.result.now c.bytes_of.result c.size.result (length c.in_ok-leaves.leaves) c.page.ensures c.in_ok-leaves.ensures c.as_slice-2.ensures c.row.ensures (c.as_slice.ensures.value ∙ c.rest.ensures) c.in_ok-new.ensures c.bytes_of.ensures c.size.ensures.value refl in omega arith

pub overflow_cast-need-2 : goal.overflow_cast-need-2
overflow_cast-need-2 g c = let a = need_small g.O.OpClass.meaning c.args.table.now c.args.descent.now c.args.at c.args.parent c.args.node c.requires.shape c.requires.stands c.requires.above c.requires.spot c.requires.short c.page.result.now c.in_ok-leaves.leaves c.as_slice-2.result.now c.in_ok-new.new c.row.result c.as_slice.result.now c.bytes_of.result c.size.result c.len-count.result c.page.ensures c.in_ok-leaves.ensures c.as_slice-2.ensures c.row.ensures (c.as_slice.ensures.value ∙ c.rest.ensures) c.in_ok-new.ensures c.bytes_of.ensures c.size.ensures.value c.len-count.ensures in omega arith

pub overflow_cast-count : goal.overflow_cast-count
overflow_cast-count g c = let a = count_small g.O.OpClass.meaning c.args.table.now c.args.descent.now c.args.at c.args.parent c.args.node c.requires.shape c.requires.stands c.requires.above c.requires.spot c.requires.short c.page.result.now c.in_ok-leaves.leaves c.as_slice-2.result.now c.in_ok-new.new c.row.result c.as_slice.result.now c.bytes_of.result c.size.result c.len-count.result c.page.ensures c.in_ok-leaves.ensures c.as_slice-2.ensures c.row.ensures (c.as_slice.ensures.value ∙ c.rest.ensures) c.in_ok-new.ensures c.bytes_of.ensures c.size.ensures.value c.len-count.ensures in omega arith

pub pick-requires-clause-need : goal.pick-requires-clause-need
pick-requires-clause-need g c =
    let e = ap (λ (w : Want). w.need) (c.avoiding-want.ensures ∙ ap (λ (w : Want). record w { avoid = Some c.args.at.block }) c.leaf.ensures) in
    let a = need_small g.O.OpClass.meaning c.args.table.now c.args.descent.now c.args.at c.args.parent c.args.node c.requires.shape c.requires.stands c.requires.above c.requires.spot c.requires.short c.page.result.now c.in_ok-leaves.leaves c.as_slice-2.result.now c.in_ok-new.new c.row.result c.as_slice.result.now c.bytes_of.result c.size.result c.len-count.result c.page.ensures c.in_ok-leaves.ensures c.as_slice-2.ensures c.row.ensures (c.as_slice.ensures.value ∙ c.rest.ensures) c.in_ok-new.ensures c.bytes_of.ensures c.size.ensures.value c.len-count.ensures in omega arith

pub returns-in_err-block-clause-full : goal.returns-in_err-block-clause-full
returns-in_err-block-clause-full g c =
    let f : IsErrOf c.from_residual-in_err-block.result IndexFull → IsFull c.args.table.now (want_of kinds.Leaf c.is_nulls-nulls.result None (c.bytes_of.result + c.size.result + 4) (c.len-count.result + 1) (Some c.args.at.block) c.args.seat) = search rules in
    let W = want_is g.O.OpClass.meaning c.args.table.now c.args.descent.now c.args.at c.args.parent c.args.node c.requires.shape c.requires.stands c.requires.above c.requires.spot c.requires.short c.page.result.now c.in_ok-leaves.leaves c.as_slice-2.result.now c.in_ok-new.new c.row.result c.as_slice.result.now c.bytes_of.result c.size.result c.len-count.result c.page.ensures c.in_ok-leaves.ensures c.as_slice-2.ensures c.row.ensures (c.as_slice.ensures.value ∙ c.rest.ensures) c.in_ok-new.ensures c.bytes_of.ensures c.size.ensures.value c.len-count.ensures c.is_nulls-nulls.result c.args.seat c.is_nulls-nulls.ensures in
    let V = want_there g.O.OpClass.meaning c.args.table.now c.args.descent.now c.args.at c.args.parent c.args.node c.requires.shape c.requires.stands c.requires.above c.requires.spot c.requires.short c.args.seat in
    λ e. subst (λ (z : Want). IsFull c.args.table.now z) (W ∙ V) (f e)

pub write_chain-requires-clause-chained : goal.write_chain-requires-clause-chained
write_chain-requires-clause-chained g c =
    let W = c.avoiding-want.ensures ∙ ap (λ (w : Want). record w { avoid = Some c.args.at.block }) c.leaf.ensures ∙ want_is g.O.OpClass.meaning c.args.table.now c.args.descent.now c.args.at c.args.parent c.args.node c.requires.shape c.requires.stands c.requires.above c.requires.spot c.requires.short c.page.result.now c.in_ok-leaves.leaves c.as_slice-2.result.now c.in_ok-new.new c.row.result c.as_slice.result.now c.bytes_of.result c.size.result c.len-count.result c.page.ensures c.in_ok-leaves.ensures c.as_slice-2.ensures c.row.ensures (c.as_slice.ensures.value ∙ c.rest.ensures) c.in_ok-new.ensures c.bytes_of.ensures c.size.ensures.value c.len-count.ensures c.is_nulls-nulls.result c.args.seat c.is_nulls-nulls.ensures in
    let Q = subst (λ (z : Want). Picks c.args.table.now z c.in_ok-block.block c.pick.new.self) W c.in_ok-block.ensures.ok in
    let P = subst (λ (z : Want). IsPicked c.args.table.now z c.in_ok-block.block c.pick.new.self) W c.in_ok-block.ensures.picked in
    chained_after g.O.OpClass.meaning c.args.table.now c.args.descent.now c.args.at c.args.parent c.args.node c.requires.shape c.requires.stands c.requires.above c.requires.spot c.requires.short c.pick.new.self c.in_ok-block.block c.args.seat Q P

pub write_chain-requires-clause-head : goal.write_chain-requires-clause-head
write_chain-requires-clause-head g c =
    let W = c.avoiding-want.ensures ∙ ap (λ (w : Want). record w { avoid = Some c.args.at.block }) c.leaf.ensures ∙ want_is g.O.OpClass.meaning c.args.table.now c.args.descent.now c.args.at c.args.parent c.args.node c.requires.shape c.requires.stands c.requires.above c.requires.spot c.requires.short c.page.result.now c.in_ok-leaves.leaves c.as_slice-2.result.now c.in_ok-new.new c.row.result c.as_slice.result.now c.bytes_of.result c.size.result c.len-count.result c.page.ensures c.in_ok-leaves.ensures c.as_slice-2.ensures c.row.ensures (c.as_slice.ensures.value ∙ c.rest.ensures) c.in_ok-new.ensures c.bytes_of.ensures c.size.ensures.value c.len-count.ensures c.is_nulls-nulls.result c.args.seat c.is_nulls-nulls.ensures in
    let Q = subst (λ (z : Want). Picks c.args.table.now z c.in_ok-block.block c.pick.new.self) W c.in_ok-block.ensures.ok in
    let P = subst (λ (z : Want). IsPicked c.args.table.now z c.in_ok-block.block c.pick.new.self) W c.in_ok-block.ensures.picked in
    begins_after g.O.OpClass.meaning c.args.table.now c.args.descent.now c.args.at c.args.parent c.args.node c.requires.shape c.requires.stands c.requires.above c.requires.spot c.requires.short c.pick.new.self c.in_ok-block.block c.args.seat Q P

pub write_chain-requires-clause-parent : goal.write_chain-requires-clause-parent
write_chain-requires-clause-parent g c =
    let W = c.avoiding-want.ensures ∙ ap (λ (w : Want). record w { avoid = Some c.args.at.block }) c.leaf.ensures ∙ want_is g.O.OpClass.meaning c.args.table.now c.args.descent.now c.args.at c.args.parent c.args.node c.requires.shape c.requires.stands c.requires.above c.requires.spot c.requires.short c.page.result.now c.in_ok-leaves.leaves c.as_slice-2.result.now c.in_ok-new.new c.row.result c.as_slice.result.now c.bytes_of.result c.size.result c.len-count.result c.page.ensures c.in_ok-leaves.ensures c.as_slice-2.ensures c.row.ensures (c.as_slice.ensures.value ∙ c.rest.ensures) c.in_ok-new.ensures c.bytes_of.ensures c.size.ensures.value c.len-count.ensures c.is_nulls-nulls.result c.args.seat c.is_nulls-nulls.ensures in
    let Q = subst (λ (z : Want). Picks c.args.table.now z c.in_ok-block.block c.pick.new.self) W c.in_ok-block.ensures.ok in
    let P = subst (λ (z : Want). IsPicked c.args.table.now z c.in_ok-block.block c.pick.new.self) W c.in_ok-block.ensures.picked in
    parent_after g.O.OpClass.meaning c.args.table.now c.args.descent.now c.args.at c.args.parent c.args.node c.requires.shape c.requires.stands c.requires.above c.requires.spot c.requires.short c.pick.new.self c.in_ok-block.block c.args.seat Q P

pub write_chain-requires-clause-within : goal.write_chain-requires-clause-within
write_chain-requires-clause-within g c =
    let W = c.avoiding-want.ensures ∙ ap (λ (w : Want). record w { avoid = Some c.args.at.block }) c.leaf.ensures ∙ want_is g.O.OpClass.meaning c.args.table.now c.args.descent.now c.args.at c.args.parent c.args.node c.requires.shape c.requires.stands c.requires.above c.requires.spot c.requires.short c.page.result.now c.in_ok-leaves.leaves c.as_slice-2.result.now c.in_ok-new.new c.row.result c.as_slice.result.now c.bytes_of.result c.size.result c.len-count.result c.page.ensures c.in_ok-leaves.ensures c.as_slice-2.ensures c.row.ensures (c.as_slice.ensures.value ∙ c.rest.ensures) c.in_ok-new.ensures c.bytes_of.ensures c.size.ensures.value c.len-count.ensures c.is_nulls-nulls.result c.args.seat c.is_nulls-nulls.ensures in
    let Q = subst (λ (z : Want). Picks c.args.table.now z c.in_ok-block.block c.pick.new.self) W c.in_ok-block.ensures.ok in
    let P = subst (λ (z : Want). IsPicked c.args.table.now z c.in_ok-block.block c.pick.new.self) W c.in_ok-block.ensures.picked in
    within_after g.O.OpClass.meaning c.args.table.now c.args.descent.now c.args.at c.args.parent c.args.node c.requires.shape c.requires.stands c.requires.above c.requires.spot c.requires.short c.pick.new.self c.in_ok-block.block c.args.seat Q P

pub write_chain-requires-clause-node : goal.write_chain-requires-clause-node
write_chain-requires-clause-node g c =
    let W = c.avoiding-want.ensures ∙ ap (λ (w : Want). record w { avoid = Some c.args.at.block }) c.leaf.ensures ∙ want_is g.O.OpClass.meaning c.args.table.now c.args.descent.now c.args.at c.args.parent c.args.node c.requires.shape c.requires.stands c.requires.above c.requires.spot c.requires.short c.page.result.now c.in_ok-leaves.leaves c.as_slice-2.result.now c.in_ok-new.new c.row.result c.as_slice.result.now c.bytes_of.result c.size.result c.len-count.result c.page.ensures c.in_ok-leaves.ensures c.as_slice-2.ensures c.row.ensures (c.as_slice.ensures.value ∙ c.rest.ensures) c.in_ok-new.ensures c.bytes_of.ensures c.size.ensures.value c.len-count.ensures c.is_nulls-nulls.result c.args.seat c.is_nulls-nulls.ensures in
    let Q = subst (λ (z : Want). Picks c.args.table.now z c.in_ok-block.block c.pick.new.self) W c.in_ok-block.ensures.ok in
    let P = subst (λ (z : Want). IsPicked c.args.table.now z c.in_ok-block.block c.pick.new.self) W c.in_ok-block.ensures.picked in
    node_after g.O.OpClass.meaning c.args.table.now c.args.descent.now c.args.at c.args.parent c.args.node c.requires.shape c.requires.stands c.requires.above c.requires.spot c.requires.short c.pick.new.self c.in_ok-block.block c.args.seat Q P

pub write_chain-requires-clause-leaves : goal.write_chain-requires-clause-leaves
write_chain-requires-clause-leaves g c = live_are g.O.OpClass.meaning c.args.table.now c.args.descent.now c.args.at c.args.parent c.args.node c.requires.shape c.requires.stands c.requires.above c.requires.spot c.requires.short c.page.result.now c.in_ok-leaves.leaves c.as_slice-2.result.now c.in_ok-new.new c.row.result c.as_slice.result.now c.bytes_of.result c.size.result c.len-count.result c.page.ensures c.in_ok-leaves.ensures c.as_slice-2.ensures c.row.ensures (c.as_slice.ensures.value ∙ c.rest.ensures) c.in_ok-new.ensures c.bytes_of.ensures c.size.ensures.value c.len-count.ensures c.as_slice-3.result.now c.as_slice-3.ensures

pub write_chain-requires-clause-room : goal.write_chain-requires-clause-room
write_chain-requires-clause-room g c =
    let W = c.avoiding-want.ensures ∙ ap (λ (w : Want). record w { avoid = Some c.args.at.block }) c.leaf.ensures ∙ want_is g.O.OpClass.meaning c.args.table.now c.args.descent.now c.args.at c.args.parent c.args.node c.requires.shape c.requires.stands c.requires.above c.requires.spot c.requires.short c.page.result.now c.in_ok-leaves.leaves c.as_slice-2.result.now c.in_ok-new.new c.row.result c.as_slice.result.now c.bytes_of.result c.size.result c.len-count.result c.page.ensures c.in_ok-leaves.ensures c.as_slice-2.ensures c.row.ensures (c.as_slice.ensures.value ∙ c.rest.ensures) c.in_ok-new.ensures c.bytes_of.ensures c.size.ensures.value c.len-count.ensures c.is_nulls-nulls.result c.args.seat c.is_nulls-nulls.ensures in
    let Q = subst (λ (z : Want). Picks c.args.table.now z c.in_ok-block.block c.pick.new.self) W c.in_ok-block.ensures.ok in
    let P = subst (λ (z : Want). IsPicked c.args.table.now z c.in_ok-block.block c.pick.new.self) W c.in_ok-block.ensures.picked in
    subst (λ vs. HaveRoom (tuples_at c.pick.new.self c.in_ok-block.block) vs) (sym (leaves_are g.O.OpClass.meaning c.args.table.now c.args.descent.now c.args.at c.args.parent c.args.node c.requires.shape c.requires.stands c.requires.above c.requires.spot c.requires.short c.page.result.now c.in_ok-leaves.leaves c.as_slice-2.result.now c.in_ok-new.new c.row.result c.as_slice.result.now c.bytes_of.result c.size.result c.len-count.result c.page.ensures c.in_ok-leaves.ensures c.as_slice-2.ensures c.row.ensures (c.as_slice.ensures.value ∙ c.rest.ensures) c.in_ok-new.ensures c.bytes_of.ensures c.size.ensures.value c.len-count.ensures c.as_slice-3.result.now c.as_slice-3.ensures)) (room_after g.O.OpClass.meaning c.args.table.now c.args.descent.now c.args.at c.args.parent c.args.node c.requires.shape c.requires.stands c.requires.above c.requires.spot c.requires.short c.pick.new.self c.in_ok-block.block c.args.seat Q P)

pub returns-clause-ok : goal.returns-clause-ok
returns-clause-ok g c =
    let W = c.avoiding-want.ensures ∙ ap (λ (w : Want). record w { avoid = Some c.args.at.block }) c.leaf.ensures ∙ want_is g.O.OpClass.meaning c.args.table.now c.args.descent.now c.args.at c.args.parent c.args.node c.requires.shape c.requires.stands c.requires.above c.requires.spot c.requires.short c.page.result.now c.in_ok-leaves.leaves c.as_slice-2.result.now c.in_ok-new.new c.row.result c.as_slice.result.now c.bytes_of.result c.size.result c.len-count.result c.page.ensures c.in_ok-leaves.ensures c.as_slice-2.ensures c.row.ensures (c.as_slice.ensures.value ∙ c.rest.ensures) c.in_ok-new.ensures c.bytes_of.ensures c.size.ensures.value c.len-count.ensures c.is_nulls-nulls.result c.args.seat c.is_nulls-nulls.ensures in
    let Q = subst (λ (z : Want). Picks c.args.table.now z c.in_ok-block.block c.pick.new.self) W c.in_ok-block.ensures.ok in
    let P = subst (λ (z : Want). IsPicked c.args.table.now z c.in_ok-block.block c.pick.new.self) W c.in_ok-block.ensures.picked in
    carried_moves g.O.OpClass.meaning c.args.table.now c.args.descent.now c.args.at c.args.parent c.args.node c.requires.shape c.requires.stands c.requires.above c.requires.spot c.requires.short c.pick.new.self c.in_ok-block.block c.args.seat Q P c.write_chain.new.table (c.write_chain.ensures ∙ ap (λ vs. moved_table c.pick.new.self c.in_ok-block.block c.args.at c.args.parent c.args.node vs) (leaves_are g.O.OpClass.meaning c.args.table.now c.args.descent.now c.args.at c.args.parent c.args.node c.requires.shape c.requires.stands c.requires.above c.requires.spot c.requires.short c.page.result.now c.in_ok-leaves.leaves c.as_slice-2.result.now c.in_ok-new.new c.row.result c.as_slice.result.now c.bytes_of.result c.size.result c.len-count.result c.page.ensures c.in_ok-leaves.ensures c.as_slice-2.ensures c.row.ensures (c.as_slice.ensures.value ∙ c.rest.ensures) c.in_ok-new.ensures c.bytes_of.ensures c.size.ensures.value c.len-count.ensures c.as_slice-3.result.now c.as_slice-3.ensures))

pub returns-clause-ticked : goal.returns-clause-ticked
returns-clause-ticked g c =
    let W = c.avoiding-want.ensures ∙ ap (λ (w : Want). record w { avoid = Some c.args.at.block }) c.leaf.ensures ∙ want_is g.O.OpClass.meaning c.args.table.now c.args.descent.now c.args.at c.args.parent c.args.node c.requires.shape c.requires.stands c.requires.above c.requires.spot c.requires.short c.page.result.now c.in_ok-leaves.leaves c.as_slice-2.result.now c.in_ok-new.new c.row.result c.as_slice.result.now c.bytes_of.result c.size.result c.len-count.result c.page.ensures c.in_ok-leaves.ensures c.as_slice-2.ensures c.row.ensures (c.as_slice.ensures.value ∙ c.rest.ensures) c.in_ok-new.ensures c.bytes_of.ensures c.size.ensures.value c.len-count.ensures c.is_nulls-nulls.result c.args.seat c.is_nulls-nulls.ensures in
    let Q = subst (λ (z : Want). Picks c.args.table.now z c.in_ok-block.block c.pick.new.self) W c.in_ok-block.ensures.ok in
    let P = subst (λ (z : Want). IsPicked c.args.table.now z c.in_ok-block.block c.pick.new.self) W c.in_ok-block.ensures.picked in
    ticks g.O.OpClass.meaning c.args.table.now c.args.descent.now c.args.at c.args.parent c.args.node c.requires.shape c.requires.stands c.requires.above c.requires.spot c.requires.short c.pick.new.self c.in_ok-block.block c.args.seat Q P c.write_chain.new.table (c.write_chain.ensures ∙ ap (λ vs. moved_table c.pick.new.self c.in_ok-block.block c.args.at c.args.parent c.args.node vs) (leaves_are g.O.OpClass.meaning c.args.table.now c.args.descent.now c.args.at c.args.parent c.args.node c.requires.shape c.requires.stands c.requires.above c.requires.spot c.requires.short c.page.result.now c.in_ok-leaves.leaves c.as_slice-2.result.now c.in_ok-new.new c.row.result c.as_slice.result.now c.bytes_of.result c.size.result c.len-count.result c.page.ensures c.in_ok-leaves.ensures c.as_slice-2.ensures c.row.ensures (c.as_slice.ensures.value ∙ c.rest.ensures) c.in_ok-new.ensures c.bytes_of.ensures c.size.ensures.value c.len-count.ensures c.as_slice-3.result.now c.as_slice-3.ensures))

pub returns-clause-makes : goal.returns-clause-makes
returns-clause-makes g c =
    let W = c.avoiding-want.ensures ∙ ap (λ (w : Want). record w { avoid = Some c.args.at.block }) c.leaf.ensures ∙ want_is g.O.OpClass.meaning c.args.table.now c.args.descent.now c.args.at c.args.parent c.args.node c.requires.shape c.requires.stands c.requires.above c.requires.spot c.requires.short c.page.result.now c.in_ok-leaves.leaves c.as_slice-2.result.now c.in_ok-new.new c.row.result c.as_slice.result.now c.bytes_of.result c.size.result c.len-count.result c.page.ensures c.in_ok-leaves.ensures c.as_slice-2.ensures c.row.ensures (c.as_slice.ensures.value ∙ c.rest.ensures) c.in_ok-new.ensures c.bytes_of.ensures c.size.ensures.value c.len-count.ensures c.is_nulls-nulls.result c.args.seat c.is_nulls-nulls.ensures in
    let Q = subst (λ (z : Want). Picks c.args.table.now z c.in_ok-block.block c.pick.new.self) W c.in_ok-block.ensures.ok in
    let P = subst (λ (z : Want). IsPicked c.args.table.now z c.in_ok-block.block c.pick.new.self) W c.in_ok-block.ensures.picked in
    makes_none g.O.OpClass.meaning c.args.table.now c.args.descent.now c.args.at c.args.parent c.args.node c.requires.shape c.requires.stands c.requires.above c.requires.spot c.requires.short c.pick.new.self c.in_ok-block.block c.args.seat Q P c.write_chain.new.table (c.write_chain.ensures ∙ ap (λ vs. moved_table c.pick.new.self c.in_ok-block.block c.args.at c.args.parent c.args.node vs) (leaves_are g.O.OpClass.meaning c.args.table.now c.args.descent.now c.args.at c.args.parent c.args.node c.requires.shape c.requires.stands c.requires.above c.requires.spot c.requires.short c.page.result.now c.in_ok-leaves.leaves c.as_slice-2.result.now c.in_ok-new.new c.row.result c.as_slice.result.now c.bytes_of.result c.size.result c.len-count.result c.page.ensures c.in_ok-leaves.ensures c.as_slice-2.ensures c.row.ensures (c.as_slice.ensures.value ∙ c.rest.ensures) c.in_ok-new.ensures c.bytes_of.ensures c.size.ensures.value c.len-count.ensures c.as_slice-3.result.now c.as_slice-3.ensures))

pub returns-clause-held : goal.returns-clause-held
returns-clause-held g c =
    let W = c.avoiding-want.ensures ∙ ap (λ (w : Want). record w { avoid = Some c.args.at.block }) c.leaf.ensures ∙ want_is g.O.OpClass.meaning c.args.table.now c.args.descent.now c.args.at c.args.parent c.args.node c.requires.shape c.requires.stands c.requires.above c.requires.spot c.requires.short c.page.result.now c.in_ok-leaves.leaves c.as_slice-2.result.now c.in_ok-new.new c.row.result c.as_slice.result.now c.bytes_of.result c.size.result c.len-count.result c.page.ensures c.in_ok-leaves.ensures c.as_slice-2.ensures c.row.ensures (c.as_slice.ensures.value ∙ c.rest.ensures) c.in_ok-new.ensures c.bytes_of.ensures c.size.ensures.value c.len-count.ensures c.is_nulls-nulls.result c.args.seat c.is_nulls-nulls.ensures in
    let V = want_there g.O.OpClass.meaning c.args.table.now c.args.descent.now c.args.at c.args.parent c.args.node c.requires.shape c.requires.stands c.requires.above c.requires.spot c.requires.short c.args.seat in
    let P = subst (λ (z : Want). IsPicked c.args.table.now z c.in_ok-block.block c.pick.new.self) (W ∙ V) c.in_ok-block.ensures.picked in
    moved_held c.args.table.now c.write_chain.new.table c.args.descent.now c.args.seat c.in_ok-block.block c.args.at c.args.parent c.args.node c.requires.stands c.requires.above (picked_free c.args.table.now c.pick.new.self (carried_want c.args.table.now c.args.descent.now c.args.seat) c.in_ok-block.block P) (ap (λ (z : Table). z.touched) c.write_chain.ensures)

pub returns-clause-table : goal.returns-clause-table
returns-clause-table g c =
    let W = c.avoiding-want.ensures ∙ ap (λ (w : Want). record w { avoid = Some c.args.at.block }) c.leaf.ensures ∙ want_is g.O.OpClass.meaning c.args.table.now c.args.descent.now c.args.at c.args.parent c.args.node c.requires.shape c.requires.stands c.requires.above c.requires.spot c.requires.short c.page.result.now c.in_ok-leaves.leaves c.as_slice-2.result.now c.in_ok-new.new c.row.result c.as_slice.result.now c.bytes_of.result c.size.result c.len-count.result c.page.ensures c.in_ok-leaves.ensures c.as_slice-2.ensures c.row.ensures (c.as_slice.ensures.value ∙ c.rest.ensures) c.in_ok-new.ensures c.bytes_of.ensures c.size.ensures.value c.len-count.ensures c.is_nulls-nulls.result c.args.seat c.is_nulls-nulls.ensures in
    let V = want_there g.O.OpClass.meaning c.args.table.now c.args.descent.now c.args.at c.args.parent c.args.node c.requires.shape c.requires.stands c.requires.above c.requires.spot c.requires.short c.args.seat in
    let Q = subst (λ (z : Want). Picks c.args.table.now z c.in_ok-block.block c.pick.new.self) (W ∙ V) c.in_ok-block.ensures.ok in
    moves_table c.args.table.now c.pick.new.self c.write_chain.new.table c.args.descent.now c.args.at c.args.parent c.args.node c.in_ok-block.block c.args.seat c.requires.stands c.requires.above Q (c.write_chain.ensures ∙ ap (λ vs. moved_table c.pick.new.self c.in_ok-block.block c.args.at c.args.parent c.args.node vs) (leaves_are g.O.OpClass.meaning c.args.table.now c.args.descent.now c.args.at c.args.parent c.args.node c.requires.shape c.requires.stands c.requires.above c.requires.spot c.requires.short c.page.result.now c.in_ok-leaves.leaves c.as_slice-2.result.now c.in_ok-new.new c.row.result c.as_slice.result.now c.bytes_of.result c.size.result c.len-count.result c.page.ensures c.in_ok-leaves.ensures c.as_slice-2.ensures c.row.ensures (c.as_slice.ensures.value ∙ c.rest.ensures) c.in_ok-new.ensures c.bytes_of.ensures c.size.ensures.value c.len-count.ensures c.as_slice-3.result.now c.as_slice-3.ensures))

pub returns-clause-exact : goal.returns-clause-exact
returns-clause-exact g c =
    let W = c.avoiding-want.ensures ∙ ap (λ (w : Want). record w { avoid = Some c.args.at.block }) c.leaf.ensures ∙ want_is g.O.OpClass.meaning c.args.table.now c.args.descent.now c.args.at c.args.parent c.args.node c.requires.shape c.requires.stands c.requires.above c.requires.spot c.requires.short c.page.result.now c.in_ok-leaves.leaves c.as_slice-2.result.now c.in_ok-new.new c.row.result c.as_slice.result.now c.bytes_of.result c.size.result c.len-count.result c.page.ensures c.in_ok-leaves.ensures c.as_slice-2.ensures c.row.ensures (c.as_slice.ensures.value ∙ c.rest.ensures) c.in_ok-new.ensures c.bytes_of.ensures c.size.ensures.value c.len-count.ensures c.is_nulls-nulls.result c.args.seat c.is_nulls-nulls.ensures in
    let Q = subst (λ (z : Want). Picks c.args.table.now z c.in_ok-block.block c.pick.new.self) W c.in_ok-block.ensures.ok in
    let P = subst (λ (z : Want). IsPicked c.args.table.now z c.in_ok-block.block c.pick.new.self) W c.in_ok-block.ensures.picked in
    exact g.O.OpClass.meaning c.args.table.now c.args.descent.now c.args.at c.args.parent c.args.node c.requires.shape c.requires.stands c.requires.above c.requires.spot c.requires.short c.pick.new.self c.in_ok-block.block c.args.seat Q P c.write_chain.new.table (c.write_chain.ensures ∙ ap (λ vs. moved_table c.pick.new.self c.in_ok-block.block c.args.at c.args.parent c.args.node vs) (leaves_are g.O.OpClass.meaning c.args.table.now c.args.descent.now c.args.at c.args.parent c.args.node c.requires.shape c.requires.stands c.requires.above c.requires.spot c.requires.short c.page.result.now c.in_ok-leaves.leaves c.as_slice-2.result.now c.in_ok-new.new c.row.result c.as_slice.result.now c.bytes_of.result c.size.result c.len-count.result c.page.ensures c.in_ok-leaves.ensures c.as_slice-2.ensures c.row.ensures (c.as_slice.ensures.value ∙ c.rest.ensures) c.in_ok-new.ensures c.bytes_of.ensures c.size.ensures.value c.len-count.ensures c.as_slice-3.result.now c.as_slice-3.ensures))

pub returns-clause-not_full : goal.returns-clause-not_full
returns-clause-not_full g c =
    let W = c.avoiding-want.ensures ∙ ap (λ (w : Want). record w { avoid = Some c.args.at.block }) c.leaf.ensures ∙ want_is g.O.OpClass.meaning c.args.table.now c.args.descent.now c.args.at c.args.parent c.args.node c.requires.shape c.requires.stands c.requires.above c.requires.spot c.requires.short c.page.result.now c.in_ok-leaves.leaves c.as_slice-2.result.now c.in_ok-new.new c.row.result c.as_slice.result.now c.bytes_of.result c.size.result c.len-count.result c.page.ensures c.in_ok-leaves.ensures c.as_slice-2.ensures c.row.ensures (c.as_slice.ensures.value ∙ c.rest.ensures) c.in_ok-new.ensures c.bytes_of.ensures c.size.ensures.value c.len-count.ensures c.is_nulls-nulls.result c.args.seat c.is_nulls-nulls.ensures in
    let V = want_there g.O.OpClass.meaning c.args.table.now c.args.descent.now c.args.at c.args.parent c.args.node c.requires.shape c.requires.stands c.requires.above c.requires.spot c.requires.short c.args.seat in
    let Q = subst (λ (z : Want). Picks c.args.table.now z c.in_ok-block.block c.pick.new.self) (W ∙ V) c.in_ok-block.ensures.ok in
    picks_not_full c.args.table.now (carried_want c.args.table.now c.args.descent.now c.args.seat) c.in_ok-block.block c.pick.new.self Q
