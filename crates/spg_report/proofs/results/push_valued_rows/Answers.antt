use Rattle.std.proofs.Common.{arith}
use Rattle.spg_script.specs.Spelling.{IsRow}
use Rattle.spg_report.proofs.Taken.{all_more, all_taken}
use Rattle.spg_report.proofs.RowLines.{rows_more, rows_all}
use Rattle.spg_report.proofs.results.push_valued_rows.Goals as goal

pub loop-index-preserved : goal.loop-index-preserved
loop-index-preserved c = record {
  text = rows_more c.args.rows.now c.args.values.now c.loop-index.index _ _ c.loop-index.invariant.text c.index-rows-index.result _ _ _ (omega arith) c.index-rows-index.is c.value_on.ensures c.in_ok-push.ensures c.in_ok-push_valued_row.ensures.text;
  fits = all_more IsRow c.args.rows.now c.loop-index.index c.index-rows-index.result (omega arith) c.index-rows-index.is c.loop-index.invariant.fits c.in_ok-push_valued_row.ensures.fits;
}

pub returns-clause-text : goal.returns-clause-text
returns-clause-text c = rows_all c.args.rows.now c.args.values.now c.loop-index.index _ _ c.loop-index.invariant.text (omega arith)

pub returns-clause-fits : goal.returns-clause-fits
returns-clause-fits c = all_taken IsRow c.args.rows.now c.loop-index.index (omega arith) c.loop-index.invariant.fits
