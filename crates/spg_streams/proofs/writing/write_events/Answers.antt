use Rattle.std.proofs.Common.{◌+◌, ◌++◌, ◌∷◌, [], drop, sym, ap, ◌∙◌, arith}
use Rattle.spg_report.specs.Text.{ended, event_lines}
use Rattle.spg_report.proofs.Taken.{all_more, all_taken}
use Rattle.spg_histories.specs.Exact.{FitsTypes}
use Rattle.spg_streams.proofs.Streams.{Wrote-more, WroteSome-more, OnErr-always, event_lines-more, put_on_clear}
use Rattle.spg_streams.proofs.writing.write_events.Goals as goal

pub returns-in_err-write_line-clause-err : goal.returns-in_err-write_line-clause-err
returns-in_err-write_line-clause-err g c = OnErr-always _ _ (WroteSome-more _ _ _ _ _ _ _ c.loop-at.invariant.wrote c.in_err-write_line.ensures.err
    (event_lines-more g.O.Spoken.speech c.loop-at.at c.args.journal.now c.loop-at.at c.index-journal-at.result (omega arith) c.index-journal-at.is
    ∙ ap (λ l. (l ++ 10 ∷ []) ++ ended (event_lines g.O.Spoken.speech (c.loop-at.at + 1) (drop (c.loop-at.at + 1) c.args.journal.now))) (sym (put_on_clear _ _ _ c.clear.ensures c.in_ok-push_event.ensures.text))))

pub loop-at-preserved : goal.loop-at-preserved
loop-at-preserved g c = record {
  wrote = Wrote-more _ _ _ _ _ _ _ c.loop-at.invariant.wrote c.in_ok-write_line.ensures.ok
      (event_lines-more g.O.Spoken.speech c.loop-at.at c.args.journal.now c.loop-at.at c.index-journal-at.result (omega arith) c.index-journal-at.is
      ∙ ap (λ l. (l ++ 10 ∷ []) ++ ended (event_lines g.O.Spoken.speech (c.loop-at.at + 1) (drop (c.loop-at.at + 1) c.args.journal.now))) (sym (put_on_clear _ _ _ c.clear.ensures c.in_ok-push_event.ensures.text)));
  fits = all_more FitsTypes c.args.journal.now c.loop-at.at c.index-journal-at.result (omega arith) c.index-journal-at.is c.loop-at.invariant.fits (record { seat = c.in_ok-push_event.ensures.seat; fits = c.in_ok-push_event.ensures.fits });
  same = c.in_ok-write_line.ensures.answered ∙ c.loop-at.invariant.same;
}

pub returns-clause-fits : goal.returns-clause-fits
returns-clause-fits g c = all_taken FitsTypes c.args.journal.now c.loop-at.at (omega arith) c.loop-at.invariant.fits
