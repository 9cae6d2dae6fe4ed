-- Which rows were killed and not swept, and which of them an open vacuum must sweep.
use Rattle.std.specs.Prelude.{◌≡◌, ◌↔◌, ◌||◌, ℕ, Bool, true, false, ◌∷◌, length, nat_lt, nat_le, if◌then◌else◌}
use Rattle.spg_base.specs.Row.{RowAt, same_row}
use Rattle.spg_rows.specs.declared.event.Event.{Event}
use Rattle.spg_rows.specs.declared.event.Event.TheVariants.{OpenInsert, Put, Drop, Kill, OpenScan, CloseScan, OpenVacuum, Sweep, CloseVacuum, Leave}
use Rattle.spg_rows.specs.declared.table.RowState.{RowState}
use Rattle.spg_rows.specs.declared.table.RowState.TheVariants as row_state
use Rattle.spg_rows.specs.History.{History, vacuuming, open_of}
use Rattle.spg_rows.specs.Rows.{state_of}
use Rattle.spg_rows.specs.Legal.{IsAllowed, IsLegal}
use Rattle.spg_rows.specs.Scans.{IsTarget}

-- the row was killed, and not swept
abbrev pub is_killed : RowState → Bool
is_killed row_state.Free = false
is_killed row_state.Claimed = false
is_killed row_state.Live = false
is_killed (row_state.Killed at) = true
is_killed (row_state.Swept vacuum) = false

-- so it is, and the kill stands before position n
abbrev pub killed_before : ℕ → RowState → Bool
killed_before n row_state.Free = false
killed_before n row_state.Claimed = false
killed_before n row_state.Live = false
killed_before n (row_state.Killed at) = nat_lt at n
killed_before n (row_state.Swept vacuum) = false

-- or stands at n or later
abbrev pub killed_from : ℕ → RowState → Bool
killed_from n row_state.Free = false
killed_from n row_state.Claimed = false
killed_from n row_state.Live = false
killed_from n (row_state.Killed at) = nat_le n at
killed_from n (row_state.Swept vacuum) = false

-- a vacuum that opened after `before` must sweep the row: it was killed before, and is not swept
abbrev pub is_target : {O Key Recon Cond : Type 0} → History O Key Recon Cond → History O Key Recon Cond → RowAt → Bool
is_target before past r = killed_before (length before) (state_of r past)

-- it is so of just the rows that are present and whose last life was killed before
abbrev pub TargetsAgree : (O Key Recon Cond : Type 0) → Type 0
TargetsAgree O Key Recon Cond = (before past : History O Key Recon Cond) (r : RowAt) → IsLegal past → (is_target before past r ≡ true) ↔ IsTarget before past r

-- ---- two sets of the rows that were killed and not swept

-- Each such row is in one of the sets `targets` and `later`. Where a vacuum is open, the targets are those killed before its open, and the later ones those killed since
pub record KillsTell {O Key Recon Cond : Type 0} (past : History O Key Recon Cond) (targets later : RowAt → Bool) : Type 0 where
  pub killed : (r : RowAt) → (targets r || later r) ≡ is_killed (state_of r past)
  pub early : (seat : ℕ) (before : History O Key Recon Cond) → open_of seat past ≡ vacuuming before → (r : RowAt) → targets r ≡ killed_before (length before) (state_of r past)
  pub late : (seat : ℕ) (before : History O Key Recon Cond) → open_of seat past ≡ vacuuming before → (r : RowAt) → later r ≡ killed_from (length before) (state_of r past)

-- the set is as it was
abbrev pub SameTest : (RowAt → Bool) → (RowAt → Bool) → Type 0
SameTest old new = (r : RowAt) → new r ≡ old r

-- What an event makes of the sets: a kill puts its row to the later ones, a sweep takes its row from the targets, and where a vacuum opens all are targets
abbrev pub ChangesTargets : {O Key Recon Cond : Type 0} → Event O Key Recon Cond → (RowAt → Bool) → (RowAt → Bool) → (RowAt → Bool) → (RowAt → Bool) → Type 0
ChangesTargets (OpenInsert seat row key) targets later targets2 later2 = SameTest targets targets2 × SameTest later later2
ChangesTargets (Put seat row) targets later targets2 later2 = SameTest targets targets2 × SameTest later later2
ChangesTargets (Drop seat row why) targets later targets2 later2 = SameTest targets targets2 × SameTest later later2
ChangesTargets (Kill seat row) targets later targets2 later2 = SameTest targets targets2 × ((r : RowAt) → later2 r ≡ (if same_row row r then true else later r))
ChangesTargets (OpenScan seat query) targets later targets2 later2 = SameTest targets targets2 × SameTest later later2
ChangesTargets (CloseScan seat rows) targets later targets2 later2 = SameTest targets targets2 × SameTest later later2
ChangesTargets (OpenVacuum seat) targets later targets2 later2 = ((r : RowAt) → targets2 r ≡ (targets r || later r)) × ((r : RowAt) → later2 r ≡ false)
ChangesTargets (Sweep seat row) targets later targets2 later2 = ((r : RowAt) → targets2 r ≡ (if same_row row r then false else targets r)) × SameTest later later2
ChangesTargets (CloseVacuum seat swept) targets later targets2 later2 = SameTest targets targets2 × SameTest later later2
ChangesTargets (Leave seat) targets later targets2 later2 = SameTest targets targets2 × SameTest later later2

-- then the sets tell what they tell
abbrev pub KillsStay : (O Key Recon Cond : Type 0) → Type 0
KillsStay O Key Recon Cond = (e : Event O Key Recon Cond) (past : History O Key Recon Cond) (targets later targets2 later2 : RowAt → Bool) → IsLegal past → IsAllowed past e →
    KillsTell past targets later → ChangesTargets e targets later targets2 later2 → KillsTell (e ∷ past) targets2 later2
