use Rattle.std.proofs.Common.{◌+◌, ◌++◌, ◌∷◌, [], drop, sym, ap, ◌∙◌, arith}
use Rattle.spg_report.specs.Text.{ended, plain_lines}
use Rattle.spg_report.specs.Told.{FitsRecord}
use Rattle.spg_report.proofs.Taken.{all_more, all_taken}
use Rattle.spg_streams.proofs.Streams.{Wrote-more, WroteSome-more, OnErr-always, plain_lines-more, put_on_clear}
use Rattle.spg_streams.proofs.writing.write_plain_results.Goals as goal

pub returns-in_err-write_line-clause-err : goal.returns-in_err-write_line-clause-err
returns-in_err-write_line-clause-err g c = OnErr-always _ _ (WroteSome-more _ _ _ _ _ _ _ c.loop-index.invariant.wrote c.in_err-write_line.ensures.err
    (plain_lines-more (c.loop-index.index + 1) c.args.records.now c.loop-index.index c.index-records-index.result (omega arith) c.index-records-index.is
    ∙ ap (λ l. (l ++ 10 ∷ []) ++ ended (plain_lines ((c.loop-index.index + 1) + 1) (drop (c.loop-index.index + 1) c.args.records.now))) (sym (put_on_clear _ _ _ c.clear.ensures c.in_ok-push_plain_result.ensures.text))))

pub loop-index-preserved : goal.loop-index-preserved
loop-index-preserved g c = record {
  wrote = Wrote-more _ _ _ _ _ _ _ c.loop-index.invariant.wrote c.in_ok-write_line.ensures.ok
      (plain_lines-more (c.loop-index.index + 1) c.args.records.now c.loop-index.index c.index-records-index.result (omega arith) c.index-records-index.is
      ∙ ap (λ l. (l ++ 10 ∷ []) ++ ended (plain_lines ((c.loop-index.index + 1) + 1) (drop (c.loop-index.index + 1) c.args.records.now))) (sym (put_on_clear _ _ _ c.clear.ensures c.in_ok-push_plain_result.ensures.text)));
  fits = all_more FitsRecord c.args.records.now c.loop-index.index c.index-records-index.result (omega arith) c.index-records-index.is c.loop-index.invariant.fits c.in_ok-push_plain_result.ensures.fits;
  same = c.in_ok-write_line.ensures.answered ∙ c.loop-index.invariant.same;
}

pub returns-clause-fits : goal.returns-clause-fits
returns-clause-fits g c = all_taken FitsRecord c.args.records.now c.loop-index.index (omega arith) c.loop-index.invariant.fits
