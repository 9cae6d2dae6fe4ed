-- Values as C sees them.
use Rattle.std.specs.Prelude.{ℕ, ◌/◌, ◌%◌, ◌^◌}
use Rattle.spg_base.specs.Row.{RowAt}
use Rattle.spg_base.specs.declared.recorded.Stat.{Stat}
use Rattle.spg_near.specs.declared.near_row.NearRow.{NearRow}
use Rattle.spg_c.specs.declared.values.SpgRow.{SpgRow}
use Rattle.spg_c.specs.declared.values.SpgNearRow.{SpgNearRow}
use Rattle.spg_c.specs.declared.values.SpgStat.{SpgStat}

abbrev pub row_at : SpgRow → RowAt
row_at r = record { block = r.block; offset = r.offset }

abbrev pub told_row : RowAt → SpgRow
told_row r = record { block = r.block; offset = r.offset }

-- the square of the distance is high times 2^64, and low
abbrev pub told_near : NearRow → SpgNearRow
told_near h = record { row = told_row h.row; low = h.distance % 2 ^ 64; high = h.distance / 2 ^ 64 % 2 ^ 64 }

abbrev pub told_stat : Stat → SpgStat
told_stat s = record { pages = s.pages; inner = s.inner; leaf = s.leaf; redirect = s.redirect; dead = s.dead; placeholder = s.placeholder; clock = s.clock }
