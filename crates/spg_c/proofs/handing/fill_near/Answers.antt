use Rattle.std.proofs.Common.{◌∙◌, ap, arith}
use Rattle.spg_c.specs.Shown.{told_near}
use Rattle.spg_c.proofs.Filling.{filled}
use Rattle.spg_c.proofs.handing.fill_near.Goals as goal

pub loop-i-preserved : goal.loop-i-preserved
loop-i-preserved c =
    let few = c.min-count.ensures in
    let more = c.loop-i-test.true in
    filled told_near c.args.found.now c.args.rows.now c.loop-i.rows c.loop-i.i c.index-found-i.result c.near_told.result c.loop-i.invariant (c.near_told.ensures ∙ ap told_near c.index-found-i.is) (omega arith) (omega arith)
