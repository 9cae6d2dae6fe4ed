use Rattle.std.proofs.Common.{◌++◌, take, sym, ap, ◌∙◌, take-append-drop}
use Rattle.std.proofs.lemmas.List.{take_rest}
use Rattle.spg_streams.proofs.Streams.{Wrote-more}
use Rattle.spg_streams.proofs.stream.write_all.Goals as goal

pub loop-rest-preserved : goal.loop-rest-preserved
loop-rest-preserved g c = record {
  wrote = Wrote-more _ _ _ _ _ _ _ c.loop-rest.invariant.wrote c.in_ok-count.ensures.bytes (sym (ap (λ l. take c.in_ok-count.count c.loop-rest.rest.now ++ l) (take_rest c.loop-rest.rest.now c.in_ok-count.count) ∙ take-append-drop c.in_ok-count.count c.loop-rest.rest.now));
  same = c.in_ok-count.ensures.answered ∙ c.loop-rest.invariant.same;
}
