use Rattle.std.proofs.Common.{arith}
use Rattle.spg_standby.proofs.Kept.{kept_less}
use Rattle.spg_standby.proofs.pool.Pool.keep_behind.Goals as goal

pub loop-pages-preserved : goal.loop-pages-preserved
loop-pages-preserved c =
    kept_less c.args.pages.now.items c.loop-pages.pages.items c.take_last-page.new.self.items c.take_last-page.result c.args.count c.take_last-page.ensures.items
    (let more = c.loop-pages-test.true in let is = c.len.ensures in let counted = c.loop-pages.pages.ok.0 in omega arith) c.loop-pages.invariant.1

pub loop-pages-preserved-in-loop-pages : goal.loop-pages-preserved-in-loop-pages
loop-pages-preserved-in-loop-pages c =
    kept_less c.args.pages.now.items c.loop-pages.pages.items c.take_last-page.new.self.items c.take_last-page.result c.args.count c.take_last-page.ensures.items
    (let more = c.loop-pages-test.true in let is = c.len.ensures in let counted = c.loop-pages.pages.ok.0 in omega arith) c.loop-pages.invariant.1
