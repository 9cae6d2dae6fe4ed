use Rattle.std.proofs.Common.{◌≡◌, Option, subst, sym, ap, ◌∙◌}
use Rattle.spg_base.specs.Row.{RowAt}
use Rattle.spg_forest.specs.Pages.{IsFresh}
use Rattle.spg_forest.specs.Shape.{spots}
use Rattle.spg_forest.specs.Sheets.{Sheets}
use Rattle.spg_tree.specs.Table.{sheets_of}
use Rattle.spg_tree.specs.Descents.{Descending}
use Rattle.spg_descend.specs.Carried.{IsCarried}
use Rattle.spg_test_states.proofs.LaterPages.{opened_row}
use Rattle.spg_test_states.proofs.sections.clock.at_root.Goals as goal

pub returns-in-In-clause-carries : goal.returns-in-In-clause-carries
returns-in-In-clause-carries g c =
    let m = g.O.OpClass.meaning in
    let t = c.args.table.now in
    let d = c.open_descent-descent.result.1 in
    let row = c.args.row in
    let key = c.args.key in
    let ek : c.in_ok-started.started ≡ key = c.in_ok-started.ensures in
    let (unheld, et, ed) = c.in-In.ensures.entered in
    let er : d.row ≡ row = ap (λ (z : Descending _). z.row) c.open_descent-descent.ensures.at_start ∙ opened_row m row c.in_ok-started.started in
    let fresh : IsFresh (spots (sheets_of t)) d.row = subst (λ (r : RowAt). IsFresh (spots (sheets_of t)) r) (sym er) c.requires.fresh in
    let at = c.in-In.ensures.carries (sheets_of t) key (subst (λ (k : Option _). IsCarried m (sheets_of t) d k) ek (c.open_descent-descent.ensures.carries (sheets_of t) fresh)) in
    subst (λ (S : Sheets). IsCarried m S c.enter_root.new.descent key) (sym (ap sheets_of et)) (subst (λ (z : Descending _). IsCarried m (sheets_of t) z key) (sym ed) at)
