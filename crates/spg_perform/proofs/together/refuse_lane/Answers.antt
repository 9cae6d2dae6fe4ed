use Rattle.std.proofs.Common.{◌∙◌, arith}
use Rattle.spg_perform.proofs.Refusing.{refused_more}
use Rattle.spg_perform.proofs.together.refuse_lane.Goals as goal

pub loop-preserved : goal.loop-preserved
loop-preserved c = record {
  records = c.add.ensures.records ∙ refused_more c.args.at c.loop.counter c.args.book.now.records c.loop.book.records c.loop.invariant.records;
  room = omega (arith, c.add.ensures.spare, c.loop.invariant.room);
}
