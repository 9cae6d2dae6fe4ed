use Rattle.std.proofs.Common.{ℕ, ◌<◌, ◌+◌}
use Rattle.std.specs.List.{IsDistinct}
use Rattle.spg_base.specs.Row.{same_row}
use Rattle.spg_forest.specs.Pages.{place}
use Rattle.spg_tree.specs.Table.{sheets_of}
use Rattle.spg_survey.specs.Earlier.{among, IsNewAt, HasBefore}
use Rattle.spg_survey.proofs.apart.note_rows.Given as goal

abbrev pub invariant-loop-index : goal.invariant-loop-index
invariant-loop-index l = record {
  rows : HasBefore (sheets_of l.table) (place l.block (l.index + 1)) (among l.rows.items);
  apart : IsDistinct same_row l.rows.items → IsDistinct same_row l.fn.rows.items;
  new : IsDistinct same_row l.rows.items → (i : ℕ) → i < l.index → IsNewAt (sheets_of l.table) (place l.block (i + 1));
}
