use Rattle.std.proofs.Common.{◌≡◌, ◌∙◌, ◌+◌, ◌*◌, ◌<◌, length, sym, subst, arith}
use Rattle.spg_tree.specs.Table.{sheet_of}
use Rattle.spg_core.specs.Counts.{counts_on, plus, AreAtMost}
use Rattle.spg_core.proofs.Counting.{page_more, few_plus, few_up}
use Rattle.spg_core.proofs.stat.count_all.Goals as goal

pub loop-block-preserved : goal.loop-block-preserved
loop-block-preserved c =
    let ss = c.args.table.now.pages in
    let i = c.loop-block.block in
    let h : i < length ss = omega arith in
    let ts = (sheet_of ss i).tuples in
    let page : c.count_page.result ≡ counts_on ts = c.count_page.ensures.value ∙ (λ k. counts_on (c.page.ensures k).tuples) in
    let few = few_plus (408 * i) 408 c.loop-block.counts c.count_page.result c.loop-block.invariant.1 c.count_page.ensures.bound in (
      c.plus-counts.ensures ∙ (λ k. plus (c.loop-block.invariant.0 k) (page k)) ∙ page_more ss i h,
      subst (AreAtMost (408 * (i + 1))) (sym c.plus-counts.ensures) (few_up (408 * i + 408) (408 * (i + 1)) _ (omega arith) few),
    )
