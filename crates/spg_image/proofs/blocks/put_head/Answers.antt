use Rattle.std.proofs.Common.{◌∙◌, arith}
use Rattle.spg_page.proofs.Numbers.{two_zero, four_zero}
use Rattle.spg_page.proofs.Heads.{mark_same}
use Rattle.spg_image.proofs.blocks.put_head.Goals as goal

pub returns-clause-head : goal.returns-clause-head
returns-clause-head c =
    record {
      mark = mark_same c.args.version c.put_mark.new.page c.put_two.new.page (λ k l. c.put_two.ensures.below k (omega arith) ∙ c.put_one.ensures.below k (omega arith)) c.put_mark.ensures.mark;
      kind = c.put_two.ensures.below 6 (omega arith) ∙ c.put_one.ensures.value;
      tree = c.put_two.ensures.below 7 (omega arith) ∙ c.put_one.ensures.above 7 (omega arith) ∙ c.put_mark.ensures.above 7 (omega arith) ∙ c.requires 7;
      block = four_zero c.put_two.new.page 8 (λ k a b. c.put_two.ensures.below k (omega arith) ∙ c.put_one.ensures.above k (omega arith) ∙ c.put_mark.ensures.above k (omega arith) ∙ c.requires k);
      items = two_zero c.put_two.new.page 12 (λ k a b. c.put_two.ensures.below k (omega arith) ∙ c.put_one.ensures.above k (omega arith) ∙ c.put_mark.ensures.above k (omega arith) ∙ c.requires k);
      upper = c.put_two.ensures.value;
      zeros = λ k a b. c.put_two.ensures.above k (omega arith) ∙ c.put_one.ensures.above k (omega arith) ∙ c.put_mark.ensures.above k (omega arith) ∙ c.requires k;
      tail = λ k a b. c.put_two.ensures.above k (omega arith) ∙ c.put_one.ensures.above k (omega arith) ∙ c.put_mark.ensures.above k (omega arith) ∙ c.requires k;
    }

pub returns-clause-above : goal.returns-clause-above
returns-clause-above c = λ k a. c.put_two.ensures.above k (omega arith) ∙ c.put_one.ensures.above k (omega arith) ∙ c.put_mark.ensures.above k (omega arith) ∙ c.requires k
