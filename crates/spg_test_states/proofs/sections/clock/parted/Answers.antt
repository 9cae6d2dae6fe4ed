use Rattle.std.proofs.Common.{◌≡◌, List, None, reverse, subst, sym, ap, ◌∙◌}
use Rattle.spg_forest.specs.Pages.{IsFresh}
use Rattle.spg_forest.specs.Shape.{spots}
use Rattle.spg_forest.specs.Sheets.{Sheet}
use Rattle.spg_rows.specs.declared.event.Event.{Event}
use Rattle.spg_rows.specs.declared.event.Event.TheVariants.{OpenInsert}
use Rattle.spg_rows.specs.Legal.{IsLegal}
use Rattle.spg_tree.specs.Table.{Table, sheets_of}
use Rattle.spg_core.specs.Seen.{Seen, past_of}
use Rattle.spg_test_states.proofs.LaterPages.{last_allowed, unclaimed_fresh}
use Rattle.spg_test_states.proofs.sections.clock.parted.Goals as goal

pub returns-in-Ok-clause-fresh : goal.returns-in-Ok-clause-fresh
returns-in-Ok-clause-fresh g c =
    let m = g.O.OpClass.meaning in
    let s = c.args.state.now in
    let row = c.args.row in
    let made = c.in_ok-made.made in
    let legal = subst (λ (events : List (Event _ _ _ _)). IsLegal (reverse events)) (ap (λ (z : Seen _ _ _ _). z.journal) c.in-Ok.ensures.ok.0) c.journal-journal.ensures.right.legal in
    let (allowed, before) = last_allowed s.journal (OpenInsert c.first.result row None) legal in
    let fresh : IsFresh (spots (sheets_of s.table)) row = unclaimed_fresh m (sheets_of s.table) (past_of s) row c.pages.ensures.represents before allowed.1 in
    let e : made.pages ≡ s.table.pages = c.in_ok-made.ensures.pages ∙ ap (λ (z : Table). z.pages) c.pages.ensures.value in
    subst (λ (ss : List Sheet). IsFresh (spots (record { clock = made.clock; sheets = ss })) row) (sym e) fresh
