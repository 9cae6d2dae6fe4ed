use Rattle.std.proofs.Common.{◌+◌, ◌++◌, ◌∷◌, [], List, ℕ, drop, sym, ap, ◌∙◌, arith}
use Rattle.spg_report.specs.Text.{ended}
use Rattle.spg_streams.proofs.Streams.{Wrote-more, WroteSome-more, OnErr-always, lines_more, put_on_clear}
use Rattle.spg_streams.proofs.summary.write_lines.Goals as goal

pub returns-in_err-write_line-clause-err : goal.returns-in_err-write_line-clause-err
returns-in_err-write_line-clause-err g c = OnErr-always _ _ (WroteSome-more _ _ _ _ _ _ _ c.loop-one.invariant.wrote c.in_err-write_line.ensures.err
    (lines_more c.args.lines.now c.loop-one.one-index c.one-item.result (omega arith) c.one-item.is
    ∙ ap (λ (l : List ℕ). (l ++ 10 ∷ []) ++ ended (drop (c.loop-one.one-index + 1) c.args.lines.now)) (sym (put_on_clear _ _ _ c.clear.ensures c.in_ok-extend.ensures ∙ c.as_slice.ensures))))

pub loop-one-preserved : goal.loop-one-preserved
loop-one-preserved g c = record {
  wrote = Wrote-more _ _ _ _ _ _ _ c.loop-one.invariant.wrote c.in_ok-write_line.ensures.ok
      (lines_more c.args.lines.now c.loop-one.one-index c.one-item.result (omega arith) c.one-item.is
      ∙ ap (λ (l : List ℕ). (l ++ 10 ∷ []) ++ ended (drop (c.loop-one.one-index + 1) c.args.lines.now)) (sym (put_on_clear _ _ _ c.clear.ensures c.in_ok-extend.ensures ∙ c.as_slice.ensures)));
  later = omega (arith, c.loop-one.invariant.later, c.in_ok-write_line.ensures.cause.later);
}
