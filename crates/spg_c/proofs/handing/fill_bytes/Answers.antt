use Rattle.std.proofs.Common.{refl, get_or, arith}
use Rattle.spg_c.proofs.Filling.{filled}
use Rattle.spg_c.proofs.handing.fill_bytes.Goals as goal

pub loop-i-preserved : goal.loop-i-preserved
loop-i-preserved c =
    let few = c.min-count.ensures in
    let more = c.loop-i-test.true in
    filled (λ n. n) c.args.found.now c.args.bytes.now c.loop-i.bytes c.loop-i.i 0 (get_or c.args.found.now c.loop-i.i 0) c.loop-i.invariant refl (omega arith) (omega arith)
