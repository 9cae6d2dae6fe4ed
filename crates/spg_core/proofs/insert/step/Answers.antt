use Rattle.std.proofs.Common.{◌<◌, ℕ, Option, IfSome, length, sym, ap, ◌∙◌, subst}
use Rattle.spg_descend.specs.Leaves.{stand_block}
use Rattle.spg_core.proofs.Settles.{does_there, step_done}
use Rattle.spg_core.proofs.insert.step.Goals as goal

pub settle_latches-requires-clause-here : goal.settle_latches-requires-clause-here
settle_latches-requires-clause-here g c = (does_there g.O.OpClass.meaning c.args.table.now c.section.new.table c.args.descent.now c.section.new.descent c.requires.can.shape c.requires.can.stands c.args.seat c.in_ok-out.out c.requires.can.of_key c.in_ok-out.ensures.does).here

pub settle_latches-requires-clause-above : goal.settle_latches-requires-clause-above
settle_latches-requires-clause-above g c = (does_there g.O.OpClass.meaning c.args.table.now c.section.new.table c.args.descent.now c.section.new.descent c.requires.can.shape c.requires.can.stands c.args.seat c.in_ok-out.out c.requires.can.of_key c.in_ok-out.ensures.does).above

pub settle_latches-requires-clause-was : goal.settle_latches-requires-clause-was
settle_latches-requires-clause-was g c = subst (λ (b : Option ℕ). IfSome b (λ n. n < length c.section.new.table.pages)) (sym (c.stand_block-was.ensures ∙ ap stand_block c.stand.ensures))
    (does_there g.O.OpClass.meaning c.args.table.now c.section.new.table c.args.descent.now c.section.new.descent c.requires.can.shape c.requires.can.stands c.args.seat c.in_ok-out.out c.requires.can.of_key c.in_ok-out.ensures.does).was

pub returns-clause-ok : goal.returns-clause-ok
returns-clause-ok g c =
    (step_done g.O.OpClass.meaning c.args.table.now c.section.new.table c.settle_latches.new.table c.args.descent.now c.section.new.descent c.args.seat c.in_ok-out.out c.stand_block-was.result g.O.OpClass.adds g.O.OpClass.splits
    c.requires.can.shape c.requires.can.of_key c.requires.can.stands c.in_ok-out.ensures.does c.settle_latches.ensures.table c.settle_latches.ensures.settled c.page_count-count.ensures.sound.latched (c.stand_block-was.ensures ∙ ap stand_block c.stand.ensures)).ok

pub returns-clause-told : goal.returns-clause-told
returns-clause-told g c =
    (step_done g.O.OpClass.meaning c.args.table.now c.section.new.table c.settle_latches.new.table c.args.descent.now c.section.new.descent c.args.seat c.in_ok-out.out c.stand_block-was.result g.O.OpClass.adds g.O.OpClass.splits
    c.requires.can.shape c.requires.can.of_key c.requires.can.stands c.in_ok-out.ensures.does c.settle_latches.ensures.table c.settle_latches.ensures.settled c.page_count-count.ensures.sound.latched (c.stand_block-was.ensures ∙ ap stand_block c.stand.ensures)).told

pub returns-clause-latches : goal.returns-clause-latches
returns-clause-latches g c =
    (step_done g.O.OpClass.meaning c.args.table.now c.section.new.table c.settle_latches.new.table c.args.descent.now c.section.new.descent c.args.seat c.in_ok-out.out c.stand_block-was.result g.O.OpClass.adds g.O.OpClass.splits
    c.requires.can.shape c.requires.can.of_key c.requires.can.stands c.in_ok-out.ensures.does c.settle_latches.ensures.table c.settle_latches.ensures.settled c.page_count-count.ensures.sound.latched (c.stand_block-was.ensures ∙ ap stand_block c.stand.ensures)).latches

pub returns-clause-within : goal.returns-clause-within
returns-clause-within g c =
    (step_done g.O.OpClass.meaning c.args.table.now c.section.new.table c.settle_latches.new.table c.args.descent.now c.section.new.descent c.args.seat c.in_ok-out.out c.stand_block-was.result g.O.OpClass.adds g.O.OpClass.splits
    c.requires.can.shape c.requires.can.of_key c.requires.can.stands c.in_ok-out.ensures.does c.settle_latches.ensures.table c.settle_latches.ensures.settled c.page_count-count.ensures.sound.latched (c.stand_block-was.ensures ∙ ap stand_block c.stand.ensures)).within

pub returns-clause-ends : goal.returns-clause-ends
returns-clause-ends g c =
    (step_done g.O.OpClass.meaning c.args.table.now c.section.new.table c.settle_latches.new.table c.args.descent.now c.section.new.descent c.args.seat c.in_ok-out.out c.stand_block-was.result g.O.OpClass.adds g.O.OpClass.splits
    c.requires.can.shape c.requires.can.of_key c.requires.can.stands c.in_ok-out.ensures.does c.settle_latches.ensures.table c.settle_latches.ensures.settled c.page_count-count.ensures.sound.latched (c.stand_block-was.ensures ∙ ap stand_block c.stand.ensures)).ends

pub returns-clause-makes : goal.returns-clause-makes
returns-clause-makes g c =
    (step_done g.O.OpClass.meaning c.args.table.now c.section.new.table c.settle_latches.new.table c.args.descent.now c.section.new.descent c.args.seat c.in_ok-out.out c.stand_block-was.result g.O.OpClass.adds g.O.OpClass.splits
    c.requires.can.shape c.requires.can.of_key c.requires.can.stands c.in_ok-out.ensures.does c.settle_latches.ensures.table c.settle_latches.ensures.settled c.page_count-count.ensures.sound.latched (c.stand_block-was.ensures ∙ ap stand_block c.stand.ensures)).makes
