-- How many rows a seat has swept since it opened its vacuum, by its own events alone.
use Rattle.std.specs.Prelude.{◌≡◌, ◌+◌, ◌++◌, ◌==◌, ℕ, List, [], ◌∷◌, reverse, if◌then◌else◌}
use Rattle.spg_rows.specs.declared.event.Event.{Event}
use Rattle.spg_rows.specs.declared.event.Event.TheVariants.{OpenInsert, Put, Drop, Kill, OpenScan, CloseScan, OpenVacuum, Sweep, CloseVacuum, Leave}
use Rattle.spg_rows.specs.History.{History, vacuuming, open_of, seat_of, own}
use Rattle.spg_rows.specs.Rows.{sweep_count}
use Rattle.spg_rows.specs.Legal.{IsLegal}

abbrev pub swept_by : {O Key Recon Cond : Type 0} → Event O Key Recon Cond → ℕ → ℕ
swept_by (OpenInsert seat row key) count = count
swept_by (Put seat row) count = count
swept_by (Drop seat row why) count = count
swept_by (Kill seat row) count = count
swept_by (OpenScan seat query) count = count
swept_by (CloseScan seat rows) count = count
swept_by (OpenVacuum seat) count = 0
swept_by (Sweep seat row) count = count + 1
swept_by (CloseVacuum seat swept) count = count
swept_by (Leave seat) count = count

-- how many rows the seat has swept after these events, the oldest first, where it had swept so many before
abbrev pub swept_after : {O Key Recon Cond : Type 0} → ℕ → ℕ → List (Event O Key Recon Cond) → ℕ
swept_after seat count [] = count
swept_after seat count (e ∷ events) = swept_after seat (if seat_of e == seat then swept_by e count else count) events

pub record SweepsTell (O Key Recon Cond : Type 0) : Type 0 where
  -- where a seat has a vacuum open, the rows that were swept since are those that it swept
  pub count : (seat : ℕ) (journal : List (Event O Key Recon Cond)) (before : History O Key Recon Cond) → IsLegal (reverse journal) → open_of seat (reverse journal) ≡ vacuuming before → sweep_count (reverse journal) ≡ sweep_count before + swept_after seat 0 journal
  -- one part after another
  pub parts : (seat count : ℕ) (xs ys : List (Event O Key Recon Cond)) → swept_after seat count (xs ++ ys) ≡ swept_after seat (swept_after seat count xs) ys
  -- the events of other seats say nothing of it
  pub alone : (seat count : ℕ) (events : List (Event O Key Recon Cond)) → swept_after seat count events ≡ swept_after seat count (own seat events)
