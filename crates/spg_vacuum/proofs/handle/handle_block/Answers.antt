use Rattle.std.proofs.Common.{ℕ, sym, ap, ◌∙◌, subst}
use Rattle.std.specs.Prelude.{nat_lt}
use Rattle.std.specs.BTreeSet.{contains}
use Rattle.std.proofs.lemmas.Bool.{ltb-false}
use Rattle.spg_base.specs.Row.{row_cmp}
use Rattle.spg_forest.specs.Sheets.{Sheet}
use Rattle.spg_chain.specs.Chained.{IsLeafPage}
use Rattle.spg_chain.proofs.Calls.{leaf_pages}
use Rattle.spg_cover.specs.Vacuum.{AreHigh}
use Rattle.spg_tree.specs.Table.{sheets_of, sheet_at}
use Rattle.spg_vacuum.specs.Handled.{IsHandled, found_at}
use Rattle.spg_vacuum.proofs.High.{found_high}
use Rattle.spg_vacuum.proofs.Handling.{block_handled}
use Rattle.spg_vacuum.proofs.handle.handle_block.Goals as goal

pub handled_page-requires : goal.handled_page-requires
handled_page-requires g c = λ r i. subst (λ (s : Sheet). IsLeafPage s.tuples) (sym c.page.ensures)
    (leaf_pages g.O.OpClass.meaning (sheets_of c.args.table.now) c.args.block c.requires.shape (ltb-false c.args.block 3 (ap (λ b. nat_lt b 3) (sym c.block.view_is) ∙ r)) (ap (λ (s : Sheet). s.inner) (sym c.page.ensures) ∙ i))

pub list_all-requires : goal.list_all-requires
list_all-requires g c = subst AreHigh (sym (c.as_slice.ensures ∙ c.in_ok-handled.ensures.found ∙ ap (λ (s : Sheet). found_at c.args.since s) c.page.ensures)) (found_high g.O.OpClass.meaning (sheets_of c.args.table.now) c.requires.shape c.args.since c.args.block)

pub returns-clause-ok : goal.returns-clause-ok
returns-clause-ok g c =
    block_handled g.O.OpClass.meaning c.args.table.now c.args.block (contains row_cmp c.args.targets.now.rows) c.args.horizon c.requires.shape c.requires.block.0 c.requires.block.1 c.args.since c.in_ok-handled.handled
    (subst (λ (b : ℕ). IsHandled (nat_lt b 3) (contains row_cmp c.args.targets.now.rows) c.args.since c.args.horizon (sheet_at c.args.table.now c.args.block) c.in_ok-handled.handled) c.block.view_is
    (subst (λ (s : Sheet). IsHandled (nat_lt c.block.inside.0 3) (contains row_cmp c.args.targets.now.rows) c.args.since c.args.horizon s c.in_ok-handled.handled) c.page.ensures c.in_ok-handled.ensures))
    c.put_page.new.table c.put_page.ensures.changed c.put_page.ensures.idle
