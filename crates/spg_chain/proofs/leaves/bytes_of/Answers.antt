use Rattle.std.proofs.Common.{◌≡◌, ap, arith, get_or}
use Rattle.spg_forest.specs.Sheets.{size_of}
use Rattle.spg_chain.proofs.LiveLists.{weight_more}
use Rattle.spg_chain.proofs.leaves.bytes_of.Goals as goal

pub loop-leaf-preserved : goal.loop-leaf-preserved
loop-leaf-preserved c =
    let m = weight_more c.args.leaves.now c.loop-leaf.leaf-index c.leaf-item.result c.loop-leaf-test.true in
    let a : size_of c.leaf-item.result ≡ size_of (get_or c.args.leaves.now c.loop-leaf.leaf-index c.leaf-item.result) = ap size_of c.leaf-item.is in
    let s = c.size.ensures.value in let h = c.size.ensures.high in
    let i = c.loop-leaf.invariant.0 in let j = c.loop-leaf.invariant.1 in
    (omega arith, omega arith)
