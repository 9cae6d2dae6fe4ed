use Rattle.std.proofs.Common.{◌∙◌, arith}
use Rattle.spg_image.proofs.Metas.{all_zero, meta_is, meta_says}
use Rattle.spg_image.proofs.blocks.meta_page.Goals as goal

pub put_head-requires : goal.put_head-requires
put_head-requires c = λ k. all_zero 8192 k

pub returns-clause-is : goal.returns-clause-is
returns-clause-is c =
    meta_is c.put_head.new.page c.put_one.new.page c.put_four.new.page c.put_eight.new.page c.put_remembered.new.page c.put_one-2.new.page c.args.meta.now.remembered c.version_of.result c.put_head.ensures.head c.put_head.ensures.above
    (record { below = c.put_one.ensures.below; above = c.put_one.ensures.above }) (record { below = c.put_four.ensures.below; above = c.put_four.ensures.above })
    (record { below = c.put_eight.ensures.below; above = c.put_eight.ensures.above }) (record { below = c.put_remembered.ensures.below; above = c.put_remembered.ensures.above })
    (record { below = c.put_one-2.ensures.below; above = c.put_one-2.ensures.above }) c.args.class c.version_of.ensures c.put_one.ensures.value (omega arith)

pub returns-clause-says : goal.returns-clause-says
returns-clause-says c =
    meta_says c.put_head.new.page c.put_one.new.page c.put_four.new.page c.put_eight.new.page c.put_remembered.new.page c.put_one-2.new.page c.args.meta.now.remembered c.version_of.result c.put_head.ensures.head c.put_head.ensures.above
    (record { below = c.put_one.ensures.below; above = c.put_one.ensures.above }) (record { below = c.put_four.ensures.below; above = c.put_four.ensures.above })
    (record { below = c.put_eight.ensures.below; above = c.put_eight.ensures.above }) (record { below = c.put_remembered.ensures.below; above = c.put_remembered.ensures.above })
    (record { below = c.put_one-2.ensures.below; above = c.put_one-2.ensures.above })
    c.args.class c.args.count c.args.meta.now.clock c.args.meta.now.counter c.put_remembered.ensures.count c.put_one.ensures.value c.put_four.ensures.value (c.put_eight.ensures.value ∙ c.moment.ensures.value) c.put_remembered.ensures.value c.put_one-2.ensures.value
