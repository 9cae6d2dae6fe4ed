use Rattle.std.proofs.Common.{◌<◌, length, arith}
use Rattle.spg_core.proofs.Loads.{refs_free, refs_next, refs_all}
use Rattle.spg_core.proofs.loading.load_rows.Goals as goal

pub load_row-requires : goal.load_row-requires
load_row-requires g c =
    let lt : c.loop-one.one-index < length c.as_slice-one-items.result.now = c.loop-one-test.true in
    refs_free g.O.OpClass.meaning c.args.listed.now c.in_ok-leaves.leaves.items c.as_slice-one-items.result.now c.loop-one.one-index c.one-item.result c.loop-one.rows c.as_slice-one-items.ensures.value c.in_ok-leaves.ensures c.requires lt c.one-item.is c.loop-one.invariant

pub loop-one-preserved : goal.loop-one-preserved
loop-one-preserved g c =
    let lt : c.loop-one.one-index < length c.as_slice-one-items.result.now = c.loop-one-test.true in
    refs_next g.O.OpClass.meaning c.args.listed.now c.in_ok-leaves.leaves.items c.as_slice-one-items.result.now c.loop-one.one-index c.one-item.result c.loop-one.rows c.load_row.new.rows c.as_slice-one-items.ensures.value c.in_ok-leaves.ensures c.requires lt c.one-item.is c.loop-one.invariant c.in_ok-load_row.ensures

pub returns : goal.returns
returns g c = refs_all g.O.OpClass.meaning c.args.listed.now c.in_ok-leaves.leaves.items c.as_slice-one-items.result.now c.loop-one.one-index c.loop-one.rows c.as_slice-one-items.ensures.value c.in_ok-leaves.ensures c.requires c.loop-one-test.false c.loop-one.invariant
