use Rattle.std.proofs.Common.{List, ℕ, OnOk, OnErr, sym, subst}
use Rattle.std.specs.Io.KnownBytes.{Appends}
use Rattle.spg_streams.specs.Io.{WroteSome}
use Rattle.spg_report.specs.Text.{ended, result_lines}
use Rattle.spg_report.proofs.Plain.{plain_results}
use Rattle.spg_streams.proofs.Streams.{WroteSome-none, OnErr-always}
use Rattle.spg_streams.proofs.writing.write_results.Goals as goal

pub returns-then-not-valued-clause-ok : goal.returns-then-not-valued-clause-ok
returns-then-not-valued-clause-ok g c = subst (λ (ls : List (List ℕ)). OnOk c.write_plain_results.result (Appends (g.K.Sink.contents c.args.sink.now) (g.K.Sink.contents c.write_plain_results.new.sink) (ended ls)))
    (sym (plain_results g.O.Spoken.speech (c.valued.ensures c.if-not-valued.true) c.args.journal.now 1 c.args.records.now)) c.write_plain_results.ensures.ok

pub returns-then-not-valued-clause-err : goal.returns-then-not-valued-clause-err
returns-then-not-valued-clause-err g c = subst (λ (ls : List (List ℕ)). OnErr c.write_plain_results.result (WroteSome (g.K.Sink.contents c.args.sink.now) (g.K.Sink.contents c.write_plain_results.new.sink) (ended ls)))
    (sym (plain_results g.O.Spoken.speech (c.valued.ensures c.if-not-valued.true) c.args.journal.now 1 c.args.records.now)) c.write_plain_results.ensures.err

pub returns-in_err-inserts-clause-err : goal.returns-in_err-inserts-clause-err
returns-in_err-inserts-clause-err g c = OnErr-always _ _ (WroteSome-none (g.K.Sink.contents c.args.sink.now) (ended (result_lines g.O.Spoken.speech c.args.journal.now 1 c.args.records.now)))

pub returns-clause-err : goal.returns-clause-err
returns-clause-err g c = rw (← c.in_ok-inserts.ensures) c.write_valued_results.ensures.err
