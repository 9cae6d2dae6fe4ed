use Rattle.std.proofs.Common.{ℕ, ◌≤◌, ◌<◌}
use Rattle.std.specs.List.{IsDistinct}
use Rattle.spg_base.specs.Row.{same_row}
use Rattle.spg_forest.specs.Pages.{place}
use Rattle.spg_tree.specs.Table.{sheets_of}
use Rattle.spg_clauses.specs.Clauses.{RowsAreNew}
use Rattle.spg_survey.specs.Earlier.{among, HasBefore}
use Rattle.spg_survey.proofs.apart.rows_of.Given as goal

abbrev pub invariant-loop-block : goal.invariant-loop-block
invariant-loop-block l = record {
  rows : HasBefore (sheets_of l.table) (place l.block 0) (among l.rows.items);
  new : IsDistinct same_row l.rows.items → (b : ℕ) → 1 ≤ b → b < l.block → RowsAreNew (sheets_of l.table) b;
}
