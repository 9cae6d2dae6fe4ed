use Rattle.std.proofs.Common.{arith}
use Rattle.spg_create.proofs.Kept.{kept_more, kept_all, known_at}
use Rattle.spg_create.proofs.keeping.keep_each_row_once.Goals as goal

pub keep_one-requires-clause-known : goal.keep_one-requires-clause-known
keep_one-requires-clause-known g c = known_at g.O.Spoken.speech c.args.inserts.now c.loop-index.index c.index-inserts-index.result (omega arith) c.index-inserts-index.is c.requires

pub loop-index-preserved : goal.loop-index-preserved
loop-index-preserved g c = record {
  so_far = kept_more g.O.Spoken.speech c.args.inserts.now c.loop-index.index c.index-inserts-index.result (omega arith) c.index-inserts-index.is c.loop-index.kept c.keep_one.new.kept c.loop-index.skipped c.in_ok-skipped.skipped c.loop-index.invariant.so_far c.in_ok-skipped.ensures;
  few = omega (arith, c.loop-index.invariant.few);
}

pub returns-clause-keeps : goal.returns-clause-keeps
returns-clause-keeps g c = kept_all g.O.Spoken.speech c.args.inserts.now c.loop-index.index c.loop-index.kept c.into_entries.result c.loop-index.skipped (omega arith) c.into_entries.ensures.is c.loop-index.invariant.so_far
