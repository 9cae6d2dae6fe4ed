use Rattle.std.proofs.Common.{◌≡◌, ◌≤◌, rules, subst, sym, ap, ◌∙◌}
use Rattle.spg_tree.specs.Table.{Table, sheets_of, table_with}
use Rattle.spg_forest.specs.Shape.{Shape}
use Rattle.spg_test_states.proofs.LaterPages.{later}
use Rattle.spg_test_states.proofs.sections.clock.at_moment.Goals as goal

pub returns-clause-shape : goal.returns-clause-shape
returns-clause-shape g c =
    let m = g.O.OpClass.meaning in
    let t = c.args.table.now in
    let e : c.in_ok-made.made ≡ table_with t.pages c.args.limit c.args.clock = c.in_ok-made.ensures ∙ ap (λ ps. table_with ps c.args.limit c.args.clock) c.in_ok-pages.ensures in
    let le : t.clock ≤ c.args.clock = search rules in
    subst (λ (z : Table). Shape m (sheets_of z)) (sym e) (later m t.clock c.args.clock t.pages le c.requires.shape)
