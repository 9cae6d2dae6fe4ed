use Rattle.std.proofs.Common.{◌≡◌, ◌++◌, drop, take}
use Rattle.std.specs.List.{AllByRecursion}
use Rattle.spg_script.specs.Spelling.{IsRow}
use Rattle.spg_report.specs.Text.{rows_text}
use Rattle.spg_report.proofs.results.push_valued_rows.Given as goal

abbrev pub invariant-loop-index : goal.invariant-loop-index
invariant-loop-index l = record {
  text : l.line ++ rows_text (drop l.index l.rows) (drop l.index l.values) ≡ l.initial.line ++ rows_text l.rows l.values;
  fits : AllByRecursion IsRow (take l.index l.rows);
}
