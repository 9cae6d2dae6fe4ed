-- What a seat is doing, by its own events alone.
use Rattle.std.specs.Prelude.{◌≡◌, ◌++◌, ◌==◌, ℕ, List, [], ◌∷◌, Option, reverse, if◌then◌else◌}
use Rattle.spg_base.specs.Row.{RowAt}
use Rattle.spg_opclass.specs.declared.query.Query.{Query}
use Rattle.spg_rows.specs.declared.event.Event.{Event}
use Rattle.spg_rows.specs.declared.event.Event.TheVariants.{OpenInsert, Put, Drop, Kill, OpenScan, CloseScan, OpenVacuum, Sweep, CloseVacuum, Leave}
use Rattle.spg_rows.specs.History.{Opened, nothing, inserting, scanning, vacuuming, open_of, seat_of, own}

-- nothing, an insert of a row with a key or a null, a scan, or a vacuum
pub data Doing (O Key Recon Cond : Type 0) : Type 0 where
  idle : Doing O Key Recon Cond
  puts : RowAt → Option Key → Doing O Key Recon Cond
  scans : Query O Key Recon Cond → Doing O Key Recon Cond
  sweeps : Doing O Key Recon Cond

-- what the seat does once it has done this
abbrev pub doing_by : {O Key Recon Cond : Type 0} → Event O Key Recon Cond → Doing O Key Recon Cond → Doing O Key Recon Cond
doing_by (OpenInsert seat row key) before = puts row key
doing_by (Put seat row) before = idle
doing_by (Drop seat row why) before = idle
doing_by (Kill seat row) before = before
doing_by (OpenScan seat query) before = scans query
doing_by (CloseScan seat rows) before = idle
doing_by (OpenVacuum seat) before = sweeps
doing_by (Sweep seat row) before = before
doing_by (CloseVacuum seat swept) before = idle
doing_by (Leave seat) before = idle

-- what the seat does after these events, the oldest first, where it did that before
abbrev pub doing_after : {O Key Recon Cond : Type 0} → ℕ → Doing O Key Recon Cond → List (Event O Key Recon Cond) → Doing O Key Recon Cond
doing_after seat before [] = before
doing_after seat before (e ∷ events) = doing_after seat (if seat_of e == seat then doing_by e before else before) events

-- what a seat does that has this open
abbrev pub doing_of : {O Key Recon Cond : Type 0} → Opened O Key Recon Cond → Doing O Key Recon Cond
doing_of nothing = idle
doing_of (inserting row key) = puts row key
doing_of (scanning before query) = scans query
doing_of (vacuuming before) = sweeps

pub record DoingTells (O Key Recon Cond : Type 0) : Type 0 where
  -- a whole journal
  pub whole : (seat : ℕ) (journal : List (Event O Key Recon Cond)) → doing_of (open_of seat (reverse journal)) ≡ doing_after seat idle journal
  -- one part after another
  pub parts : (seat : ℕ) (before : Doing O Key Recon Cond) (xs ys : List (Event O Key Recon Cond)) → doing_after seat before (xs ++ ys) ≡ doing_after seat (doing_after seat before xs) ys
  -- the events of other seats say nothing of it
  pub alone : (seat : ℕ) (before : Doing O Key Recon Cond) (events : List (Event O Key Recon Cond)) → doing_after seat before events ≡ doing_after seat before (own seat events)
