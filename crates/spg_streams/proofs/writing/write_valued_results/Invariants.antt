use Rattle.std.proofs.Common.{◌≡◌, ◌+◌, drop, take}
use Rattle.std.specs.List.{AllByRecursion}
use Rattle.spg_streams.specs.Io.{Wrote}
use Rattle.spg_report.specs.Text.{ended, result_lines}
use Rattle.spg_report.specs.Told.{FitsRecord}
use Rattle.spg_streams.proofs.writing.write_valued_results.Given as goal

abbrev pub invariant-loop-index : goal.invariant-loop-index
invariant-loop-index g l = record {
  wrote : Wrote (g.K.Sink.contents l.initial.sink) (g.K.Sink.contents l.sink) (ended (result_lines g.O.Spoken.speech l.inserts 1 l.records)) (ended (result_lines g.O.Spoken.speech l.inserts (l.index + 1) (drop l.index l.records)));
  fits : AllByRecursion FitsRecord (take l.index l.records);
  same : g.K.Sink.faults l.sink ≡ g.K.Sink.faults l.initial.sink;
}
