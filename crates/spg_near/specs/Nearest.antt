-- The nearest rows while nobody else uses the index, in the words of rows alone.
use Rattle.std.specs.Prelude.{◌≡◌, ◌≤◌, ◌<◌, ◌⊎◌, ℕ, true, List, Some, Contains, length}
use Rattle.std.specs.List.Sorted.{IsStrictlySortedBy}
use Rattle.spg_base.specs.Row.{RowAt}
use Rattle.spg_base.specs.declared.point.Point.{Point}
use Rattle.spg_rows.specs.History.{History}
use Rattle.spg_rows.specs.Rows.{is_live, key_of}
use Rattle.spg_near.specs.declared.near_row.NearRow.{NearRow}
use Rattle.spg_near.specs.Nearing.{near_cmp, IsBefore}
use Rattle.spg_near.specs.NearRight.{near_of}

-- the row is live, and has this point
abbrev pub IsAt : {O Recon Cond : Type 0} → History O Point Recon Cond → RowAt → Point → Type 0
IsAt past row key = (is_live row past ≡ true) × (key_of row past ≡ Some (Some key))

-- the limit rows nearest to p: by distance, then by row, none twice; each is live and has the distance of its point, and each live row that has a point is given, unless as many as the limit are and none of them comes behind it
pub record AreNearest {O Recon Cond : Type 0} (past : History O Point Recon Cond) (p : Point) (limit : ℕ) (rows : List NearRow) : Type 0 where
  pub few : length rows ≤ limit
  pub rises : IsStrictlySortedBy near_cmp rows
  pub found : (h : NearRow) → Contains rows h → (key : Point) × IsAt past h.row key × (h ≡ near_of p h.row key)
  pub complete : (row : RowAt) (key : Point) → IsAt past row key → (length rows < limit) ⊎ ((last : NearRow) × Contains rows last × IsBefore (near_of p row key) last) → Contains rows (near_of p row key)
