-- Which rows a history says are in the index.
use Rattle.std.specs.Prelude.{◌≡◌, true, Option, Some}
use Rattle.spg_base.specs.Row.{RowAt}
use Rattle.spg_rows.specs.History.{History}
use Rattle.spg_rows.specs.Rows.{is_present, key_of}

-- the row is present, with this key or null
abbrev pub IsPresentWith : {O Key Recon Cond : Type 0} → History O Key Recon Cond → RowAt → Option Key → Type 0
IsPresentWith past row key = (is_present row past ≡ true) × (key_of row past ≡ Some key)
