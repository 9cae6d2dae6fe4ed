use Rattle.std.proofs.Common.{◌+◌, ◌++◌, ◌∷◌, [], drop, sym, ap, ◌∙◌, arith, refl}
use Rattle.spg_report.specs.Text.{ended, result_lines}
use Rattle.spg_streams.specs.Io.{WroteSome}
use Rattle.spg_report.specs.Told.{FitsRecord}
use Rattle.spg_report.proofs.Taken.{all_more, all_taken}
use Rattle.spg_streams.proofs.Streams.{Wrote-more, Wrote-none, WroteSome-more, OnErr-always, result_lines-more, put_on_clear}
use Rattle.spg_streams.proofs.writing.write_valued_results.Goals as goal

pub returns-in_err-write_line-clause-err : goal.returns-in_err-write_line-clause-err
returns-in_err-write_line-clause-err g c = OnErr-always _ _ (WroteSome-more _ _ _ _ _ _ _ c.loop-index.invariant.wrote c.in_err-write_line.ensures.err
    (result_lines-more g.O.Spoken.speech c.args.inserts.now (c.loop-index.index + 1) c.args.records.now c.loop-index.index c.index-records-index.result (omega arith) c.index-records-index.is
    ∙ ap (λ l. (l ++ 10 ∷ []) ++ ended (result_lines g.O.Spoken.speech c.args.inserts.now ((c.loop-index.index + 1) + 1) (drop (c.loop-index.index + 1) c.args.records.now))) (sym (put_on_clear _ _ _ c.clear.ensures c.in_ok-push_valued_result.ensures.text))))

pub loop-index-preserved : goal.loop-index-preserved
loop-index-preserved g c = record {
  wrote = Wrote-more _ _ _ _ _ _ _ c.loop-index.invariant.wrote c.in_ok-write_line.ensures.ok
      (result_lines-more g.O.Spoken.speech c.args.inserts.now (c.loop-index.index + 1) c.args.records.now c.loop-index.index c.index-records-index.result (omega arith) c.index-records-index.is
      ∙ ap (λ l. (l ++ 10 ∷ []) ++ ended (result_lines g.O.Spoken.speech c.args.inserts.now ((c.loop-index.index + 1) + 1) (drop (c.loop-index.index + 1) c.args.records.now))) (sym (put_on_clear _ _ _ c.clear.ensures c.in_ok-push_valued_result.ensures.text)));
  fits = all_more FitsRecord c.args.records.now c.loop-index.index c.index-records-index.result (omega arith) c.index-records-index.is c.loop-index.invariant.fits c.in_ok-push_valued_result.ensures.fits;
  same = c.in_ok-write_line.ensures.answered ∙ c.loop-index.invariant.same;
}

pub returns-clause-fits : goal.returns-clause-fits
returns-clause-fits g c = all_taken FitsRecord c.args.records.now c.loop-index.index (omega arith) c.loop-index.invariant.fits

pub loop-index-init : goal.loop-index-init
loop-index-init g c = record { wrote = Wrote-none _ _; fits = tt; same = refl }

pub returns-in_err-push_valued_result-clause-err : goal.returns-in_err-push_valued_result-clause-err
returns-in_err-push_valued_result-clause-err g c =
    let left = ended (result_lines g.O.Spoken.speech c.args.inserts.now (c.loop-index.index + 1) (drop c.loop-index.index c.args.records.now)) in
    let some : WroteSome (g.K.Sink.contents c.args.sink.now) (g.K.Sink.contents c.loop-index.sink) (ended (result_lines g.O.Spoken.speech c.args.inserts.now 1 c.args.records.now)) = (left, c.loop-index.invariant.wrote) in
    OnErr-always _ _ some
