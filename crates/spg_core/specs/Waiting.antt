-- What the state of a row says of an insert of it.
use Rattle.std.specs.Prelude.{Bool, true, false}
use Rattle.spg_rows.specs.declared.table.RowState.{RowState}
use Rattle.spg_rows.specs.declared.table.RowState.TheVariants.{Free, Claimed, Live, Killed, Swept}

-- an insert of the row is open, or its entry is there
abbrev pub is_used : RowState → Bool
is_used Free = false
is_used Claimed = true
is_used Live = true
is_used (Killed at) = true
is_used (Swept vacuum) = false
