use Rattle.std.proofs.Common.{◌≡◌, sym, ap, ◌∙◌, subst}
use Rattle.std.specs.List.{IsDistinct}
use Rattle.spg_base.specs.Row.{same_row}
use Rattle.spg_forest.specs.Pages.{place}
use Rattle.spg_tree.specs.Table.{sheets_of}
use Rattle.spg_survey.specs.Earlier.{among}
use Rattle.spg_survey.proofs.Earlier.{row_here, no_row_here, skip, join, is_new, new_other}
use Rattle.spg_survey.proofs.Differing.{among_more, distinct_front}
use Rattle.spg_survey.proofs.apart.note_row.Goals as goal

pub returns-in_ok-push-in-Leaf-clause-rows : goal.returns-in_ok-push-in-Leaf-clause-rows
returns-in_ok-push-in-Leaf-clause-rows c =
    let S = sheets_of c.args.table.now in
    let w = row_here S c.args.block c.args.offset c.page-page.result.now c.row_at.result c.page-page.ensures (sym c.kind_at.ensures.value ∙ c.in-Leaf.is) c.row_at.ensures in
    join S c.args.block c.args.offset (among c.args.rows.now.items) (among c.push.new.self.items) c.row_at.result w.0 w.1
    (λ r. ap (λ xs. among xs r) c.in_ok-push-in-Leaf.ensures.items ∙ among_more c.args.rows.now.items c.row_at.result r) c.requires.rows

pub returns-in_ok-push-in-Leaf-clause-apart : goal.returns-in_ok-push-in-Leaf-clause-apart
returns-in_ok-push-in-Leaf-clause-apart c d = (distinct_front c.args.rows.now.items c.row_at.result (subst (IsDistinct same_row) c.in_ok-push-in-Leaf.ensures.items d)).0

pub returns-in_ok-push-in-Leaf-clause-new : goal.returns-in_ok-push-in-Leaf-clause-new
returns-in_ok-push-in-Leaf-clause-new c d =
    let S = sheets_of c.args.table.now in
    let w = row_here S c.args.block c.args.offset c.page-page.result.now c.row_at.result c.page-page.ensures (sym c.kind_at.ensures.value ∙ c.in-Leaf.is) c.row_at.ensures in
    is_new S (place c.args.block c.args.offset) (among c.args.rows.now.items) c.row_at.result w.1
    (distinct_front c.args.rows.now.items c.row_at.result (subst (IsDistinct same_row) c.in_ok-push-in-Leaf.ensures.items d)).1 c.requires.rows
