use Rattle.std.proofs.Common.{◌≡◌, List, ℕ, subst}
use Rattle.std.proofs.lemmas.Result.{on_err_weaker}
use Rattle.spg_report.specs.Text.{ended}
use Rattle.spg_streams.specs.Io.{WroteSome}
use Rattle.spg_streams.specs.Summary.{summary_lines, summary}
use Rattle.spg_streams.proofs.Streams.{WroteSome-none, OnErr-always}
use Rattle.spg_streams.proofs.summary.write_summary.Goals as goal

pub returns-in_err-lines-clause-err : goal.returns-in_err-lines-clause-err
returns-in_err-lines-clause-err g c = OnErr-always _ _ (WroteSome-none (g.K.Sink.contents c.args.sink.now) (summary c.args.journal.now c.args.records.now))

pub returns-clause-err : goal.returns-clause-err
returns-clause-err g c =
    let same : c.as_slice.result.now ≡ summary_lines c.args.journal.now c.args.records.now = cc (c.as_slice.ensures, c.in_ok-lines.ensures) in
    on_err_weaker c.write_lines.result (λ some. subst (λ (lines : List (List ℕ)). WroteSome (g.K.Sink.contents c.args.sink.now) (g.K.Sink.contents c.write_lines.new.sink) (ended lines)) same some) c.write_lines.ensures.err
