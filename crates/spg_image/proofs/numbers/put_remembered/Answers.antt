use Rattle.std.proofs.Common.{◌+◌, ◌*◌, ◌<◌, inl, inr, ◌∙◌, arith}
use Rattle.std.proofs.lemmas.Bool.{cases_eq}
use Rattle.spg_page.proofs.Numbers.{four_same}
use Rattle.spg_image.proofs.numbers.put_remembered.Goals as goal

pub loop-index-preserved : goal.loop-index-preserved
loop-index-preserved c =
    let low : c.loop-index.index < 8 = omega arith in
    record {
      value = λ i h. elim (cases_eq i c.loop-index.index) [
        | inl e ↦ rw e c.put_four.ensures.value
        | inr ne ↦ four_same c.put_four.new.page c.loop-index.page (40 + 4 * i) (λ k a b. c.put_four.ensures.below k (omega arith)) ∙ c.loop-index.invariant.value i (omega arith)
      ];
      below = λ k h. c.put_four.ensures.below k (omega arith) ∙ c.loop-index.invariant.below k h;
      above = λ k h. c.put_four.ensures.above k (omega arith) ∙ c.loop-index.invariant.above k h;
    }
