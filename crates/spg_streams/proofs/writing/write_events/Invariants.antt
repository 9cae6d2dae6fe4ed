use Rattle.std.proofs.Common.{◌≡◌, drop, take}
use Rattle.std.specs.List.{AllByRecursion}
use Rattle.spg_streams.specs.Io.{Wrote}
use Rattle.spg_report.specs.Text.{ended, event_lines}
use Rattle.spg_histories.specs.Exact.{FitsTypes}
use Rattle.spg_streams.proofs.writing.write_events.Given as goal

abbrev pub invariant-loop-at : goal.invariant-loop-at
invariant-loop-at g l = record {
  wrote : Wrote (g.K.Sink.contents l.initial.sink) (g.K.Sink.contents l.sink) (ended (event_lines g.O.Spoken.speech 0 l.journal)) (ended (event_lines g.O.Spoken.speech l.at (drop l.at l.journal)));
  fits : AllByRecursion FitsTypes (take l.at l.journal);
  same : g.K.Sink.faults l.sink ≡ g.K.Sink.faults l.initial.sink;
}
