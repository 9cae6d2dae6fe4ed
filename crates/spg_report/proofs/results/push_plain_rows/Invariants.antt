use Rattle.std.proofs.Common.{◌≡◌, ◌++◌, take}
use Rattle.std.specs.List.{AllByRecursion}
use Rattle.spg_script.specs.Spelling.{IsRow}
use Rattle.spg_report.specs.Text.{plain_rows_text}
use Rattle.spg_report.proofs.results.push_plain_rows.Given as goal

abbrev pub invariant-loop-row : goal.invariant-loop-row
invariant-loop-row l = record {
  text : l.line ≡ l.initial.line ++ plain_rows_text (take l.row-index l.rows);
  fits : AllByRecursion IsRow (take l.row-index l.rows);
}
