use Rattle.std.proofs.Common.{◌≡◌, ◌<◌, Some, length, slice_get, sym, ap, subst, arith}
use Rattle.spg_forest.specs.Pages.{place}
use Rattle.spg_forest.specs.Sheets.{links}
use Rattle.spg_page.specs.Kinds.{IsOffset}
use Rattle.spg_chain.specs.Chains.{IsChainedPage}
use Rattle.spg_tree.specs.Table.{Table, tuples_at, tuple_at}
use Rattle.spg_split.specs.Placing.{taken_by}
use Rattle.spg_split.proofs.Written.{chained_before, offset_of, bare_of, ds_length, both_positive, p_offset, p_tuple, t1, both_is, links_is, linked_is, parted_is}
use Rattle.spg_split.proofs.write.write_chain.Goals as goal

pub take_to-requires-clause-chained : goal.take_to-requires-clause-chained
take_to-requires-clause-chained c = subst (λ (u : Table). IsChainedPage (tuples_at u c.args.block)) (sym c.add_on-at.ensures.table) (chained_before c.args.table.now (place c.args.block c.args.head) c.args.parent c.args.node c.args.home c.args.rest c.args.inner.now (λ j. taken_by j c.args.leaves.now c.args.node_of.now) c.args.cut (length c.args.links.now) c.requires.may)

pub link_inner-requires-clause-offset : goal.link_inner-requires-clause-offset
link_inner-requires-clause-offset c = offset_of c.args.table.now (place c.args.block c.args.head) c.args.parent c.args.node c.args.home c.args.rest c.args.inner.now (λ j. taken_by j c.args.leaves.now c.args.node_of.now) c.args.cut (length c.args.links.now) c.requires.may c.put_both.new.table c.add_on-at.result (both_is c.args.table.now c.add_on-at.new.self c.take_to.new.table c.put_both.new.table (place c.args.block c.args.head) c.args.home c.add_on-at.result c.args.rest c.args.inner.now (λ j. taken_by j c.args.leaves.now c.args.node_of.now) c.args.cut (length c.args.links.now) c.add_on-at.ensures.at c.add_on-at.ensures.table c.take_to.ensures c.put_both.ensures.table) c.add_on-at.ensures.at

pub link_inner-requires-clause-inner : goal.link_inner-requires-clause-inner
link_inner-requires-clause-inner c = bare_of c.args.table.now (place c.args.block c.args.head) c.args.parent c.args.node c.args.home c.args.rest c.args.inner.now (λ j. taken_by j c.args.leaves.now c.args.node_of.now) c.args.cut (length c.args.links.now) c.requires.may c.put_both.new.table c.add_on-at.result c.as_slice.result.now (both_is c.args.table.now c.add_on-at.new.self c.take_to.new.table c.put_both.new.table (place c.args.block c.args.head) c.args.home c.add_on-at.result c.args.rest c.args.inner.now (λ j. taken_by j c.args.leaves.now c.args.node_of.now) c.args.cut (length c.args.links.now) c.add_on-at.ensures.at c.add_on-at.ensures.table c.take_to.ensures c.put_both.ensures.table) c.add_on-at.ensures.at (links_is c.args.table.now c.add_on-at.new.self c.take_to.new.table (place c.args.block c.args.head) c.args.home c.add_on-at.result c.args.rest c.args.inner.now (λ j. taken_by j c.args.leaves.now c.args.node_of.now) c.args.cut (length c.args.links.now) c.put_both.new.links c.as_slice.result.now c.add_on-at.ensures.at c.add_on-at.ensures.table c.take_to.ensures c.put_both.ensures.links c.as_slice.ensures)

pub link_inner-requires-clause-to : goal.link_inner-requires-clause-to
link_inner-requires-clause-to c = λ i y a. both_positive (t1 c.args.table.now (place c.args.block c.args.head) c.args.parent c.args.node c.args.home c.args.rest c.args.inner.now (λ j. taken_by j c.args.leaves.now c.args.node_of.now) c.args.cut (length c.args.links.now) c.requires.may) c.args.block c.args.rest (λ j. taken_by j c.args.leaves.now c.args.node_of.now) c.args.cut (length c.args.links.now) i y c.requires.may.x_there.0 c.requires.may.c_there.0 (subst (λ ns. slice_get ns i ≡ Some (Some y)) (links_is c.args.table.now c.add_on-at.new.self c.take_to.new.table (place c.args.block c.args.head) c.args.home c.add_on-at.result c.args.rest c.args.inner.now (λ j. taken_by j c.args.leaves.now c.args.node_of.now) c.args.cut (length c.args.links.now) c.put_both.new.links c.as_slice.result.now c.add_on-at.ensures.at c.add_on-at.ensures.table c.take_to.ensures c.put_both.ensures.links c.as_slice.ensures) a)

pub link_inner-requires-clause-count : goal.link_inner-requires-clause-count
link_inner-requires-clause-count c =
    let a = ap length (links_is c.args.table.now c.add_on-at.new.self c.take_to.new.table (place c.args.block c.args.head) c.args.home c.add_on-at.result c.args.rest c.args.inner.now (λ j. taken_by j c.args.leaves.now c.args.node_of.now) c.args.cut (length c.args.links.now) c.put_both.new.links c.as_slice.result.now c.add_on-at.ensures.at c.add_on-at.ensures.table c.take_to.ensures c.put_both.ensures.links c.as_slice.ensures) in let b = ds_length c.args.table.now (place c.args.block c.args.head) c.args.parent c.args.node c.args.home c.args.rest c.args.inner.now (λ j. taken_by j c.args.leaves.now c.args.node_of.now) c.args.cut (length c.args.links.now) c.requires.may in let k = c.requires.may.count in omega arith

pub relink-requires-clause-within : goal.relink-requires-clause-within
relink-requires-clause-within c = subst (λ (u : Table). IsOffset (tuples_at u c.args.parent.block) c.args.parent.offset) (sym (linked_is c.args.table.now c.add_on-at.new.self c.take_to.new.table c.put_both.new.table c.link_inner.new.table (place c.args.block c.args.head) c.args.home c.add_on-at.result c.args.rest c.args.inner.now (λ j. taken_by j c.args.leaves.now c.args.node_of.now) c.args.cut (length c.args.links.now) c.put_both.new.links c.as_slice.result.now c.add_on-at.ensures.at c.add_on-at.ensures.table c.take_to.ensures c.put_both.ensures.table c.put_both.ensures.links c.as_slice.ensures c.link_inner.ensures)) (p_offset c.args.table.now (place c.args.block c.args.head) c.args.parent c.args.node c.args.home c.args.rest c.args.inner.now (λ j. taken_by j c.args.leaves.now c.args.node_of.now) c.args.cut (length c.args.links.now) c.requires.may)

pub relink-requires-clause-node : goal.relink-requires-clause-node
relink-requires-clause-node c = subst (λ (u : Table). c.args.node < length (links (tuple_at u c.args.parent))) (sym (linked_is c.args.table.now c.add_on-at.new.self c.take_to.new.table c.put_both.new.table c.link_inner.new.table (place c.args.block c.args.head) c.args.home c.add_on-at.result c.args.rest c.args.inner.now (λ j. taken_by j c.args.leaves.now c.args.node_of.now) c.args.cut (length c.args.links.now) c.put_both.new.links c.as_slice.result.now c.add_on-at.ensures.at c.add_on-at.ensures.table c.take_to.ensures c.put_both.ensures.table c.put_both.ensures.links c.as_slice.ensures c.link_inner.ensures))
    (subst (λ u. c.args.node < length (links u)) (sym (p_tuple c.args.table.now (place c.args.block c.args.head) c.args.parent c.args.node c.args.home c.args.rest c.args.inner.now (λ j. taken_by j c.args.leaves.now c.args.node_of.now) c.args.cut (length c.args.links.now) c.requires.may)) c.requires.may.node)

pub returns-clause-table : goal.returns-clause-table
returns-clause-table c = parted_is c.args.table.now c.add_on-at.new.self c.take_to.new.table c.put_both.new.table c.link_inner.new.table c.relink.new.self c.raise_clock.new.self (place c.args.block c.args.head) c.args.parent c.args.node c.args.home c.add_on-at.result c.args.rest c.args.inner.now (λ j. taken_by j c.args.leaves.now c.args.node_of.now) c.args.cut (length c.args.links.now) c.put_both.new.links c.as_slice.result.now c.add_on-at.ensures.at c.add_on-at.ensures.table c.take_to.ensures c.put_both.ensures.table c.put_both.ensures.links c.as_slice.ensures c.link_inner.ensures c.relink.ensures c.raise_clock.ensures
