use Rattle.std.proofs.Common.{◌≤◌, drop}
use Rattle.spg_streams.specs.Io.{Wrote}
use Rattle.spg_report.specs.Text.{ended}
use Rattle.spg_streams.proofs.summary.write_lines.Given as goal

abbrev pub invariant-loop-one : goal.invariant-loop-one
invariant-loop-one g l = record {
  wrote : Wrote (g.K.Sink.contents l.initial.sink) (g.K.Sink.contents l.sink) (ended l.lines) (ended (drop l.one-index l.lines));
  later : g.K.Sink.faults l.initial.sink ≤ g.K.Sink.faults l.sink;
}
