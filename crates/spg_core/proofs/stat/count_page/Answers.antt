use Rattle.std.proofs.Common.{◌≡◌, ◌∙◌, ◌+◌, ◌<◌, length, sym, subst, arith}
use Rattle.spg_forest.specs.Pages.{tuple_on}
use Rattle.spg_core.specs.Counts.{one_of, plus, AreAtMost}
use Rattle.spg_core.proofs.Counting.{one_more, one_few, few_plus}
use Rattle.spg_core.proofs.stat.count_page.Goals as goal

pub loop-index-preserved : goal.loop-index-preserved
loop-index-preserved c =
    let ts = c.args.page.now.tuples in
    let i = c.loop-index.index in
    let b : i < length ts = omega arith in
    let t = tuple_on ts (i + 1) in
    let one : c.count_one.result ≡ one_of t = c.count_one.ensures in
    let few = few_plus i 1 c.loop-index.counts c.count_one.result c.loop-index.invariant.1 (subst (AreAtMost 1) (sym one) (one_few t)) in (
      c.plus-counts.ensures ∙ (λ k. plus (c.loop-index.invariant.0 k) (one k)) ∙ one_more ts i b,
      subst (AreAtMost (i + 1)) (sym c.plus-counts.ensures) few,
    )
