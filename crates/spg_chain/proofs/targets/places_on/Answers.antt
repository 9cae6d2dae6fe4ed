use Rattle.std.proofs.Common.{◌+◌, ◌++◌, ◌∷◌, [], ap, sym, ◌∙◌, arith}
use Rattle.spg_forest.specs.Pages.{tuple_on}
use Rattle.spg_page.specs.Reads.{target_in}
use Rattle.spg_chain.proofs.Telling.{places_more, places_same}
use Rattle.spg_chain.proofs.targets.places_on.Goals.{then-is_late_at+in_ok-push, else-is_late_at}
use Rattle.spg_chain.proofs.targets.places_on.Goals as goal

pub loop-index-preserved : goal.loop-index-preserved
loop-index-preserved c =
    let v = c.count-index-end.ensures.value in let h = c.loop-index-test.true in
    elim c.if-is_late_at.branch [
      | then-is_late_at+in_ok-push w ↦ w.places-is ∙ w.in_ok-push.ensures.ok ∙ ap (λ r. c.loop-index.places ++ r ∷ []) w.target_at.ensures.value ∙ ap (λ rs. rs ++ target_in (tuple_on c.args.page.now.tuples (c.loop-index.index + 1)) ∷ []) c.loop-index.invariant
          ∙ sym (places_more c.args.since c.args.page.now.tuples c.loop-index.index (c.loop-index.index + 1) (omega arith) (omega arith) (sym c.is_late_at.ensures ∙ w.if-is_late_at.true))
      | else-is_late_at w ↦ w.places-is ∙ c.loop-index.invariant ∙ sym (places_same c.args.since c.args.page.now.tuples c.loop-index.index (c.loop-index.index + 1) (omega arith) (omega arith) (sym c.is_late_at.ensures ∙ w.if-is_late_at.false))
    ]
