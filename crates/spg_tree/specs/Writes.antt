-- The table once a tuple was put on a page.
use Rattle.std.specs.Prelude.{ℕ, suc, ◌+◌, ◌≤◌, List}
use Rattle.spg_forest.specs.View.{Place}
use Rattle.spg_forest.specs.Tuples.{Tuple}
use Rattle.spg_forest.specs.Pages.{place, tuple_on, with_tuple}
use Rattle.spg_forest.specs.Sheets.{free_place, size_of}
use Rattle.spg_page.specs.Changes.{added, free_of}
use Rattle.spg_tree.specs.Table.{Table, tuples_at, with_tuples_at}

-- where a new tuple goes on the page of a block
abbrev pub new_place : Table → ℕ → Place
new_place t b = place b (suc (free_place (tuples_at t b)))

-- the tuple is added there
abbrev pub added_table : Table → ℕ → Tuple → Table
added_table t b u = with_tuples_at t b (added (tuples_at t b) u)

-- a tuple fits in the place of the one at an offset
abbrev pub FitsInPlace : List Tuple → ℕ → Tuple → Type 0
FitsInPlace ts o u = size_of u ≤ size_of (tuple_on ts o) + free_of ts

-- the table once a tuple has taken the place of that at x
abbrev pub put_table : Table → Place → Tuple → Table
put_table t x u = with_tuples_at t x.block (with_tuple (tuples_at t x.block) x.offset u)
