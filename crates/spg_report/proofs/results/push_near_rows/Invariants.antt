use Rattle.std.proofs.Common.{◌≡◌, ◌++◌, take}
use Rattle.std.specs.List.{AllByRecursion}
use Rattle.spg_report.specs.Text.{near_rows_text}
use Rattle.spg_report.specs.Told.{FitsNearRow}
use Rattle.spg_report.proofs.results.push_near_rows.Given as goal

abbrev pub invariant-loop-near : goal.invariant-loop-near
invariant-loop-near l = record {
  text : l.line ≡ l.initial.line ++ near_rows_text (take l.near-index l.rows);
  fits : AllByRecursion FitsNearRow (take l.near-index l.rows);
}
