-- A copy of a table of pages.
use Rattle.std.specs.Prelude.{[], length, None, replicate}
use Rattle.spg_tree.specs.Table.{Table}

-- no seat holds a block, and nothing was touched
abbrev pub unlatched : Table → Table
unlatched t = record t { latches = replicate (length t.pages) None; touched = [] }
