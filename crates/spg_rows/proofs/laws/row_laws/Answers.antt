use Rattle.spg_rows.proofs.Told.{over_says, held_says, used_stays, over_is_free, states_tell, lowest_within}
use Rattle.spg_rows.proofs.Vacuums.{vacuums_tell, vacuums_in_order}
use Rattle.spg_rows.proofs.laws.row_laws.Goals as goal

pub returns : goal.returns
returns g c = record { over = over_says; held = held_says; used = used_stays; free = over_is_free; states = states_tell; lowest = lowest_within; vacuums = vacuums_tell; order = vacuums_in_order }
