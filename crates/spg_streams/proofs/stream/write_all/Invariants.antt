use Rattle.std.proofs.Common.{◌≡◌, length}
use Rattle.spg_streams.specs.Io.{Wrote}
use Rattle.spg_streams.proofs.stream.write_all.Given as goal

abbrev pub invariant-loop-rest : goal.invariant-loop-rest
invariant-loop-rest g l = record {
  wrote : Wrote (g.K.Sink.contents l.initial.sink) (g.K.Sink.contents l.sink) l.fn.text l.rest;
  same : g.K.Sink.faults l.sink ≡ g.K.Sink.faults l.initial.sink;
}

abbrev pub decreases-loop-rest : goal.decreases-loop-rest
decreases-loop-rest g l = length l.rest
