use Rattle.std.proofs.Common.{◌∙◌, arith}
use Rattle.spg_page.proofs.Heads.{mark_same}
use Rattle.spg_image.proofs.Pages.{page_is, page_shows}
use Rattle.spg_image.proofs.blocks.page_bytes.Goals as goal

pub returns-clause-is : goal.returns-clause-is
returns-clause-is c =
    page_is c.args.version c.bytes-bytes.result c.put_four.new.page c.args.page.now c.args.block c.bytes-bytes.ensures (omega arith)
    (mark_same c.args.version c.put_mark.new.page c.put_four.new.page (λ k l. c.put_four.ensures.below k (omega arith)) c.put_mark.ensures.mark) c.put_four.ensures.value
    (λ k a l. c.put_four.ensures.below k l ∙ c.put_mark.ensures.above k a) (λ k a. c.put_four.ensures.above k a ∙ c.put_mark.ensures.above k (omega arith))

pub returns-clause-shows : goal.returns-clause-shows
returns-clause-shows c =
    page_shows c.args.version c.bytes-bytes.result c.put_four.new.page c.args.page.now c.args.block c.bytes-bytes.ensures (omega arith)
    (mark_same c.args.version c.put_mark.new.page c.put_four.new.page (λ k l. c.put_four.ensures.below k (omega arith)) c.put_mark.ensures.mark) c.put_four.ensures.value
    (λ k a l. c.put_four.ensures.below k l ∙ c.put_mark.ensures.above k a) (λ k a. c.put_four.ensures.above k a ∙ c.put_mark.ensures.above k (omega arith))
