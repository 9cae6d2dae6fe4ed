use Rattle.std.proofs.Common.{◌≤◌, ap, ◌∙◌, subst}
use Rattle.spg_forest.specs.View.{Place}
use Rattle.spg_forest.specs.Pages.{tuple_on}
use Rattle.spg_forest.specs.Sheets.{size_of}
use Rattle.spg_move.proofs.SplitPages.{fits_is}
use Rattle.spg_move.proofs.split_pages.fits_beside.Goals as goal

pub returns-then-at-ge3 : goal.returns-then-at-ge3
returns-then-at-ge3 c =
    let b = ap (λ (o : Place). o.block) c.at.view_is in
    let o = ap (λ (o : Place). size_of (tuple_on c.page-page.result.now.tuples o.offset)) c.at.view_is in
    fits_is c.args.table.now c.args.at.now c.args.upper.now c.args.lower.now c.page-page.result.now c.room.result c.size_at.result c.size.result c.size-then-at-ge3.result c.requires (subst (λ n. 3 ≤ n) b c.if-at-ge3.true) c.page-page.ensures c.room.ensures (c.size_at.ensures.value ∙ o) c.size.ensures.value c.size-then-at-ge3.ensures.value
