-- A table whose page has other tuples.
use Rattle.std.proofs.Common.{◌≡◌, ℕ, ◌≤◌, ◌<◌, false, List, length, length-set, ap}
use Rattle.std.proofs.lemmas.List.{get_or_past}
use Rattle.spg_forest.specs.Tuples.{Tuple}
use Rattle.spg_forest.specs.Sheets.{Sheet, blank, with_tuples}
use Rattle.spg_forest.proofs.Edits.{sheet_same, sheet_other}
use Rattle.spg_tree.specs.Table.{Table, sheets_of, sheet_at, tuples_at, with_tuples_at}

pub tuples_same : (t : Table) (b : ℕ) (ts : List Tuple) → b < length t.pages → tuples_at (with_tuples_at t b ts) b ≡ ts
tuples_same t b ts h = ap (λ (s : Sheet). s.tuples) (sheet_same (sheets_of t) b (with_tuples (sheet_at t b) ts) h)

pub tuples_other : (t : Table) (b : ℕ) (ts : List Tuple) (d : ℕ) → (d ≡ b → ⊥) → tuples_at (with_tuples_at t b ts) d ≡ tuples_at t d
tuples_other t b ts d n = ap (λ (s : Sheet). s.tuples) (sheet_other (sheets_of t) b (with_tuples (sheet_at t b) ts) d n)

pub pages_same : (t : Table) (b : ℕ) (ts : List Tuple) → length (with_tuples_at t b ts).pages ≡ length t.pages
pages_same t b ts = length-set t.pages b (with_tuples (sheet_at t b) ts)

-- past the last page
pub past_none : (t : Table) (c : ℕ) → length t.pages ≤ c → sheet_at t c ≡ blank false
past_none t c h = get_or_past t.pages c (blank false) h
