use Rattle.std.proofs.Common.{rules, ◌≡◌, false, ap, sym, ◌∙◌, subst}
use Rattle.std.specs.Prelude.{IsErrOf}
use Rattle.spg_tree.specs.Table.{sheet_at}
use Rattle.spg_tree.specs.Pick.{IsFull}
use Rattle.spg_tree.specs.declared.want.Want.{Want}
use Rattle.spg_tree.specs.declared.stand.StepRefused.TheVariants.{IndexFull}
use Rattle.spg_descend.specs.Follows.{tuple_place}
use Rattle.spg_move.specs.Splitting.{lower_want, fits_beside}
use Rattle.spg_move.proofs.SplitStanding.{upper_some, upper_small}
use Rattle.spg_move.proofs.SplitJoin.{table_of, exact_of, not_full_of, within_page, inner_page, small_page, may_part, child_node, want_is, beside_is, parts_of}
use Rattle.spg_move.proofs.Held.{split_held}
use Rattle.spg_move.proofs.split.split_tuple.Goals as goal

pub upper_tuple-requires-clause-some : goal.upper_tuple-requires-clause-some
upper_tuple-requires-clause-some g c = upper_some g.O.OpClass.meaning c.args.table.now c.requires.shape g.O.OpClass.splits g.O.OpClass.codes c.args.descent.now c.args.child c.args.upper_prefix.now c.args.lower_prefix.now c.args.upper_labels.now c.requires.spot c.requires.main c.requires.of_key c.requires.answer

pub upper_tuple-requires-clause-small : goal.upper_tuple-requires-clause-small
upper_tuple-requires-clause-small g c = upper_small g.O.OpClass.meaning c.args.table.now c.requires.shape g.O.OpClass.splits g.O.OpClass.codes c.args.descent.now c.args.child c.args.upper_prefix.now c.args.lower_prefix.now c.args.upper_labels.now c.requires.spot c.requires.main c.requires.of_key c.requires.answer

pub lower_tuple-requires-clause-within : goal.lower_tuple-requires-clause-within
lower_tuple-requires-clause-within g c = within_page g.O.OpClass.meaning c.args.table.now c.requires.shape g.O.OpClass.splits g.O.OpClass.codes c.args.descent.now c.args.child c.args.upper_prefix.now c.args.lower_prefix.now c.args.upper_labels.now c.requires.spot c.requires.main c.requires.of_key c.requires.answer c.tuple_place-at.result c.page.result.now (c.tuple_place-at.ensures ∙ ap tuple_place c.stand.ensures) c.page.ensures

pub lower_tuple-requires-clause-inner : goal.lower_tuple-requires-clause-inner
lower_tuple-requires-clause-inner g c = inner_page g.O.OpClass.meaning c.args.table.now c.requires.shape g.O.OpClass.splits g.O.OpClass.codes c.args.descent.now c.args.child c.args.upper_prefix.now c.args.lower_prefix.now c.args.upper_labels.now c.requires.spot c.requires.main c.requires.of_key c.requires.answer c.tuple_place-at.result c.page.result.now (c.tuple_place-at.ensures ∙ ap tuple_place c.stand.ensures) c.page.ensures

pub lower_tuple-requires-clause-small : goal.lower_tuple-requires-clause-small
lower_tuple-requires-clause-small g c = small_page g.O.OpClass.meaning c.args.table.now c.requires.shape g.O.OpClass.splits g.O.OpClass.codes c.args.descent.now c.args.child c.args.upper_prefix.now c.args.lower_prefix.now c.args.upper_labels.now c.requires.spot c.requires.main c.requires.of_key c.requires.answer c.tuple_place-at.result c.page.result.now (c.tuple_place-at.ensures ∙ ap tuple_place c.stand.ensures) c.page.ensures

pub part_tuple-requires-clause-may : goal.part_tuple-requires-clause-may
part_tuple-requires-clause-may g c = may_part g.O.OpClass.meaning c.args.table.now c.requires.shape g.O.OpClass.splits g.O.OpClass.codes c.args.descent.now c.args.child c.args.upper_prefix.now c.args.lower_prefix.now c.args.upper_labels.now c.requires.spot c.requires.main c.requires.of_key c.requires.answer c.tuple_place-at.result c.page.result.now (c.tuple_place-at.ensures ∙ ap tuple_place c.stand.ensures) c.page.ensures c.in_ok-upper.upper c.in_ok-lower.lower c.in_ok-upper.ensures c.in_ok-lower.ensures

pub part_tuple-requires-clause-node : goal.part_tuple-requires-clause-node
part_tuple-requires-clause-node g c = child_node g.O.OpClass.meaning c.args.table.now c.requires.shape g.O.OpClass.splits g.O.OpClass.codes c.args.descent.now c.args.child c.args.upper_prefix.now c.args.lower_prefix.now c.args.upper_labels.now c.requires.spot c.requires.main c.requires.of_key c.requires.answer c.tuple_place-at.result c.page.result.now (c.tuple_place-at.ensures ∙ ap tuple_place c.stand.ensures) c.page.ensures c.in_ok-upper.upper c.in_ok-lower.lower c.in_ok-upper.ensures c.in_ok-lower.ensures

pub returns-clause-ok : goal.returns-clause-ok
returns-clause-ok g c = parts_of g.O.OpClass.meaning c.args.table.now c.requires.shape g.O.OpClass.splits g.O.OpClass.codes c.args.descent.now c.args.child c.args.upper_prefix.now c.args.lower_prefix.now c.args.upper_labels.now c.requires.spot c.requires.main c.requires.of_key c.requires.answer c.tuple_place-at.result c.page.result.now (c.tuple_place-at.ensures ∙ ap tuple_place c.stand.ensures) c.page.ensures c.in_ok-upper.upper c.in_ok-lower.lower c.in_ok-upper.ensures c.in_ok-lower.ensures c.part_tuple.new.table c.args.seat c.note_rise.new.self c.in_ok-part_tuple.ensures.ok c.note_rise.ensures

pub returns-in_err-part_tuple-clause-full : goal.returns-in_err-part_tuple-clause-full
returns-in_err-part_tuple-clause-full g c =
    let f : IsErrOf c.from_residual-in_err-part_tuple.result IndexFull → (fits_beside c.args.table.now c.tuple_place-at.result c.in_ok-upper.upper c.in_ok-lower.lower ≡ false) × IsFull c.args.table.now (lower_want (sheet_at c.args.table.now c.tuple_place-at.result.block).nulls c.tuple_place-at.result.block c.in_ok-lower.lower c.args.seat) = search rules in
    λ e. let (n, k) = f e in (
      sym (beside_is g.O.OpClass.meaning c.args.table.now c.requires.shape g.O.OpClass.splits g.O.OpClass.codes c.args.descent.now c.args.child c.args.upper_prefix.now c.args.lower_prefix.now c.args.upper_labels.now c.requires.spot c.requires.main c.requires.of_key c.requires.answer c.tuple_place-at.result c.page.result.now (c.tuple_place-at.ensures ∙ ap tuple_place c.stand.ensures) c.page.ensures c.in_ok-upper.upper c.in_ok-lower.lower c.in_ok-upper.ensures c.in_ok-lower.ensures) ∙ n,
      subst (λ (z : Want). IsFull c.args.table.now z) (want_is g.O.OpClass.meaning c.args.table.now c.requires.shape g.O.OpClass.splits g.O.OpClass.codes c.args.descent.now c.args.child c.args.upper_prefix.now c.args.lower_prefix.now c.args.upper_labels.now c.requires.spot c.requires.main c.requires.of_key c.requires.answer c.tuple_place-at.result c.page.result.now (c.tuple_place-at.ensures ∙ ap tuple_place c.stand.ensures) c.page.ensures c.in_ok-upper.upper c.in_ok-lower.lower c.in_ok-upper.ensures c.in_ok-lower.ensures c.args.seat) k,
    )

pub returns-clause-held : goal.returns-clause-held
returns-clause-held g c = split_held c.args.table.now c.part_tuple.new.table c.args.descent.now c.tuple_place-at.result c.args.child c.args.seat c.in_ok-upper.upper c.in_ok-lower.lower c.requires.spot (c.tuple_place-at.ensures ∙ ap tuple_place c.stand.ensures) c.in_ok-part_tuple.ensures.sound.latched c.in_ok-part_tuple.ensures.ok

pub returns-clause-table : goal.returns-clause-table
returns-clause-table g c = table_of g.O.OpClass.meaning c.args.table.now c.requires.shape g.O.OpClass.splits g.O.OpClass.codes c.args.descent.now c.args.child c.args.upper_prefix.now c.args.lower_prefix.now c.args.upper_labels.now c.requires.spot c.requires.main c.requires.of_key c.requires.answer c.tuple_place-at.result c.page.result.now (c.tuple_place-at.ensures ∙ ap tuple_place c.stand.ensures) c.page.ensures c.in_ok-upper.upper c.in_ok-lower.lower c.in_ok-upper.ensures c.in_ok-lower.ensures c.part_tuple.new.table c.args.seat c.in_ok-part_tuple.ensures.ok

pub returns-clause-exact : goal.returns-clause-exact
returns-clause-exact g c = exact_of g.O.OpClass.meaning c.args.table.now c.requires.shape g.O.OpClass.splits g.O.OpClass.codes c.args.descent.now c.args.child c.args.upper_prefix.now c.args.lower_prefix.now c.args.upper_labels.now c.requires.spot c.requires.main c.requires.of_key c.requires.answer c.tuple_place-at.result c.page.result.now (c.tuple_place-at.ensures ∙ ap tuple_place c.stand.ensures) c.page.ensures c.in_ok-upper.upper c.in_ok-lower.lower c.in_ok-upper.ensures c.in_ok-lower.ensures c.part_tuple.new.table c.args.seat c.in_ok-part_tuple.ensures.ok

pub returns-clause-not_full : goal.returns-clause-not_full
returns-clause-not_full g c = not_full_of g.O.OpClass.meaning c.args.table.now c.requires.shape g.O.OpClass.splits g.O.OpClass.codes c.args.descent.now c.args.child c.args.upper_prefix.now c.args.lower_prefix.now c.args.upper_labels.now c.requires.spot c.requires.main c.requires.of_key c.requires.answer c.tuple_place-at.result c.page.result.now (c.tuple_place-at.ensures ∙ ap tuple_place c.stand.ensures) c.page.ensures c.in_ok-upper.upper c.in_ok-lower.lower c.in_ok-upper.ensures c.in_ok-lower.ensures c.part_tuple.new.table c.args.seat c.in_ok-part_tuple.ensures.ok
