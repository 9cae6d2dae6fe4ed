use Rattle.std.proofs.Common.{◌++◌, ◌∷◌, [], length, subst}
use Rattle.std.proofs.lemmas.Result.{on_err_weaker}
use Rattle.std.specs.Io.KnownBytes.{Appends}
use Rattle.spg_streams.specs.Io.{WroteSome}
use Rattle.spg_report.specs.Text.{text, result_lines, journal_text, event_lines}
use Rattle.spg_streams.proofs.Streams.{Wrote-none, WroteSome-more, OnErr-always, wrote_results, line_fails, events_fail, put_on_clear, ended-append, run_fits}
use Rattle.spg_streams.proofs.writing.write_text.Goals as goal

pub returns-in_err-write_results-clause-err : goal.returns-in_err-write_results-clause-err
returns-in_err-write_results-clause-err g c =
    OnErr-always _ _ (WroteSome-more _ _ _ _ _ _ _ (Wrote-none _ (text g.O.Spoken.speech c.args.journal.now c.args.records.now)) c.in_err-write_results.ensures.err (ended-append (result_lines g.O.Spoken.speech c.args.journal.now 1 c.args.records.now) (journal_text (length c.args.journal.now) ∷ event_lines g.O.Spoken.speech 0 c.args.journal.now)))

pub returns-in_err-push_journal-clause-err : goal.returns-in_err-push_journal-clause-err
returns-in_err-push_journal-clause-err g c =
    let some : WroteSome (g.K.Sink.contents c.args.sink.now) (g.K.Sink.contents c.write_results.new.sink) (text g.O.Spoken.speech c.args.journal.now c.args.records.now) =
    (_, wrote_results g.O.Spoken.speech c.args.journal.now c.args.records.now _ _ (g.K.Sink.contents c.args.sink.now) (g.K.Sink.contents c.args.sink.now) c.in_ok-write_results.ensures.ok) in
    OnErr-always _ _ some

pub returns-in_err-write_line-clause-err : goal.returns-in_err-write_line-clause-err
returns-in_err-write_line-clause-err g c =
    let line = put_on_clear _ _ _ c.clear.ensures c.in_ok-push_journal.ensures in
    OnErr-always _ _ (line_fails g.O.Spoken.speech c.args.journal.now c.args.records.now _ _ _ (g.K.Sink.contents c.args.sink.now) c.in_ok-write_results.ensures.ok
    (subst (λ l. WroteSome (g.K.Sink.contents c.write_results.new.sink) (g.K.Sink.contents c.write_line.new.sink) (l ++ 10 ∷ [])) line c.in_err-write_line.ensures.err))

pub returns-clause-err : goal.returns-clause-err
returns-clause-err g c =
    let line = put_on_clear _ _ _ c.clear.ensures c.in_ok-push_journal.ensures in
    let wrote = subst (λ l. Appends (g.K.Sink.contents c.write_results.new.sink) (g.K.Sink.contents c.write_line.new.sink) (l ++ 10 ∷ [])) line c.in_ok-write_line.ensures.ok in
    on_err_weaker c.write_events.result (λ some. events_fail g.O.Spoken.speech c.args.journal.now c.args.records.now _ _ _ _ c.in_ok-write_results.ensures.ok wrote some) c.write_events.ensures.err

pub returns-clause-fits : goal.returns-clause-fits
returns-clause-fits g c = run_fits c.write_events.result c.args.journal.now c.args.records.now c.write_events.ensures.short c.write_events.ensures.fits c.in_ok-write_results.ensures.few c.in_ok-write_results.ensures.fits
