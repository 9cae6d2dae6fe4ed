use Rattle.std.proofs.Common.{◌+◌, ◌<◌, ◌∙◌, length, drop, arith}
use Rattle.spg_build.proofs.Turns.{drop_at}
use Rattle.spg_build.proofs.Counting.{counts_turn, counts_few}
use Rattle.spg_build.proofs.division.counts_of.Goals as goal

pub count_one-requires-clause-few : goal.count_one-requires-clause-few
count_one-requires-clause-few c = λ d.
    let i = c.loop-index.index in
    let b : i < length c.args.node_of.now = c.loop-index-test.true in
    counts_few c.loop-index.counts.items _ c.args.count c.args.node_of.now (drop i c.args.node_of.now) (drop (i + 1) c.args.node_of.now) (drop_at c.args.node_of.now i 0 b) c.loop-index.invariant.each (c.requires i b) (omega arith) d

pub loop-index-preserved : goal.loop-index-preserved
loop-index-preserved c =
    let i = c.loop-index.index in
    let b : i < length c.args.node_of.now = c.loop-index-test.true in
    record {
      count = c.count_one.ensures.count ∙ c.loop-index.invariant.count;
      each = counts_turn c.loop-index.counts.items _ c.args.count c.args.node_of.now (drop i c.args.node_of.now) (drop (i + 1) c.args.node_of.now) (drop_at c.args.node_of.now i 0 b) c.loop-index.invariant.each c.count_one.new.counts.items c.count_one.ensures.one;
    }
