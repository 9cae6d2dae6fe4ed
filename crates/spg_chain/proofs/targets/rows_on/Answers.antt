use Rattle.std.proofs.Common.{◌+◌, ◌++◌, ◌∷◌, [], ap, sym, ◌∙◌, arith}
use Rattle.std.specs.BTreeSet.{contains}
use Rattle.spg_base.specs.Row.{row_cmp}
use Rattle.spg_forest.specs.Pages.{tuple_on}
use Rattle.spg_page.specs.Reads.{leaf_in}
use Rattle.spg_chain.proofs.Telling.{rows_more, rows_same}
use Rattle.spg_chain.proofs.targets.rows_on.Goals.{then-is_target_at+in_ok-push, else-is_target_at}
use Rattle.spg_chain.proofs.targets.rows_on.Goals as goal

pub loop-index-preserved : goal.loop-index-preserved
loop-index-preserved c =
    let v = c.count-index-end.ensures.value in let h = c.loop-index-test.true in
    elim c.if-is_target_at.branch [
      | then-is_target_at+in_ok-push w ↦ w.rows-is ∙ w.in_ok-push.ensures.ok ∙ ap (λ r. c.loop-index.rows ++ r ∷ []) w.row_at.ensures ∙ ap (λ rs. rs ++ (leaf_in (tuple_on c.args.page.now.tuples (c.loop-index.index + 1))).row ∷ []) c.loop-index.invariant
          ∙ sym (rows_more (contains row_cmp c.args.targets.now.rows) c.args.page.now.tuples c.loop-index.index (c.loop-index.index + 1) (omega arith) (omega arith) (sym c.is_target_at.ensures ∙ w.if-is_target_at.true))
      | else-is_target_at w ↦ w.rows-is ∙ c.loop-index.invariant ∙ sym (rows_same (contains row_cmp c.args.targets.now.rows) c.args.page.now.tuples c.loop-index.index (c.loop-index.index + 1) (omega arith) (omega arith) (sym c.is_target_at.ensures ∙ w.if-is_target_at.false))
    ]
