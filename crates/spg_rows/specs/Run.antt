-- Entries in ascending order of their rows.
use Rattle.std.specs.Prelude.{◌≡◌, ℕ, ◌<◌, length, slice_index_or}
use Rattle.std.specs.Map.{keys_of}
use Rattle.std.specs.List.Sorted.{IsStrictlySortedBy}
use Rattle.std.specs.declared.cmp.Ordering.TheVariants.{Less}
use Rattle.spg_base.specs.Row.{RowAt, row_cmp}
use Rattle.spg_rows.specs.declared.table.RowEntry.{RowEntry}
use Rattle.spg_rows.specs.Table.{Table}

-- each row is below those behind it
abbrev pub Rises : {O Key Recon Cond : Type 0} → Table O Key Recon Cond → Type 0
Rises table = IsStrictlySortedBy row_cmp (keys_of table)

-- the entry at this place is the row's
pub record IsAt {O Key Recon Cond : Type 0} (table : Table O Key Recon Cond) (row : RowAt) (at : ℕ) : Type 0 where
  pub in_range : at < length table
  pub here : (d : RowAt × RowEntry O Key Recon Cond) → let entry = slice_index_or table at d in entry.0 ≡ row

-- each entry's row is below this one
abbrev pub IsBehind : {O Key Recon Cond : Type 0} → Table O Key Recon Cond → RowAt → Type 0
IsBehind {O} {Key} {Recon} {Cond} table row = (j : ℕ) (d : RowAt × RowEntry O Key Recon Cond) → j < length table → let entry = slice_index_or table j d in row_cmp entry.0 row ≡ Less
