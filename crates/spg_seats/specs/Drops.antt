-- Inserts that were given up for want of room or of clock, and that the pages still show it.
use Rattle.std.specs.Prelude.{◌≡◌, ◌≤◌, ◌<◌, ◌+◌, ◌^◌, ◌||◌, Bool, true, false, [], ◌∷◌, length}
use Rattle.spg_rows.specs.declared.event.Event.{Event}
use Rattle.spg_rows.specs.declared.event.Event.TheVariants.{OpenInsert, Put, Drop, Kill, OpenScan, CloseScan, OpenVacuum, Sweep, CloseVacuum, Leave}
use Rattle.spg_rows.specs.declared.event.Why.{Why}
use Rattle.spg_rows.specs.declared.event.Why.TheVariants as cause
use Rattle.spg_rows.specs.History.{History}
use Rattle.spg_tree.specs.Table.{Table}

abbrev pub is_full : Why → Bool
is_full cause.Given = false
is_full cause.Full = true
is_full cause.Clock = false

abbrev pub is_clock : Why → Bool
is_clock cause.Given = false
is_clock cause.Full = false
is_clock cause.Clock = true

-- an insert was given up since the index was full
abbrev pub was_full : {O Key Recon Cond : Type 0} → History O Key Recon Cond → Bool
was_full [] = false
was_full (OpenInsert seat row key ∷ past) = was_full past
was_full (Put seat row ∷ past) = was_full past
was_full (Drop seat row why ∷ past) = is_full why || was_full past
was_full (Kill seat row ∷ past) = was_full past
was_full (OpenScan seat query ∷ past) = was_full past
was_full (CloseScan seat rows ∷ past) = was_full past
was_full (OpenVacuum seat ∷ past) = was_full past
was_full (Sweep seat row ∷ past) = was_full past
was_full (CloseVacuum seat swept ∷ past) = was_full past
was_full (Leave seat ∷ past) = was_full past

-- an insert was given up since the clock was at its end
abbrev pub was_clock : {O Key Recon Cond : Type 0} → History O Key Recon Cond → Bool
was_clock [] = false
was_clock (OpenInsert seat row key ∷ past) = was_clock past
was_clock (Put seat row ∷ past) = was_clock past
was_clock (Drop seat row why ∷ past) = is_clock why || was_clock past
was_clock (Kill seat row ∷ past) = was_clock past
was_clock (OpenScan seat query ∷ past) = was_clock past
was_clock (CloseScan seat rows ∷ past) = was_clock past
was_clock (OpenVacuum seat ∷ past) = was_clock past
was_clock (Sweep seat row ∷ past) = was_clock past
was_clock (CloseVacuum seat swept ∷ past) = was_clock past
was_clock (Leave seat ∷ past) = was_clock past

-- Where one was given up since the index was full, fewer than 4 blocks are left below the limit; where one was since the clock was at its end, it is there
pub record HaveCauses {O Key Recon Cond : Type 0} (past : History O Key Recon Cond) (t : Table) : Type 0 where
  pub full : was_full past ≡ true → t.limit < length t.pages + 4
  pub clock : was_clock past ≡ true → 2 ^ 48 ≤ t.clock + 1

-- an insert may be given up for this cause
abbrev pub MayDrop : Table → Why → Type 0
MayDrop t cause.Given = Unit {0}
MayDrop t cause.Full = t.limit < length t.pages + 4
MayDrop t cause.Clock = t.clock + 1 ≡ 2 ^ 48

-- the cause that an event tells
abbrev pub HasCause : {O Key Recon Cond : Type 0} → Table → Event O Key Recon Cond → Type 0
HasCause t (Drop seat row why) = MayDrop t why
HasCause t e = Unit {0}
