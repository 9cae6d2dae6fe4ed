use Rattle.std.proofs.Common.{◌≡◌, ◌++◌, map, take}
use Rattle.spg_report.specs.Text.{value_in}
use Rattle.spg_report.proofs.values.push_values.Given as goal

abbrev pub invariant-loop-row : goal.invariant-loop-row
invariant-loop-row g l = l.values.items ≡ l.initial.values.items ++ map (λ r. value_in g.O.Spoken.speech l.inserts l.to r) (take l.row-index l.rows)
