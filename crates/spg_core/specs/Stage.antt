-- How far a seat's operation has come: nothing is open, an insert is on its way, a scan holds items and has taken rows, or a vacuum has handled some blocks.
use Rattle.std.specs.Prelude.{◌≡◌, ◌+◌, ◌^◌, ℕ, [], length, ⊤}
use Rattle.spg_rows.specs.declared.event.Event.{Event}
use Rattle.spg_rows.specs.declared.event.Event.TheVariants.{Drop, Leave}
use Rattle.spg_rows.specs.declared.event.Why.{Why}
use Rattle.spg_rows.specs.declared.event.Why.TheVariants.{Given, Full, Clock}
use Rattle.spg_rows.specs.History.{History, Opened, nothing, inserting, scanning, vacuuming}
pub use Rattle.spg_seats.specs.Slots.{Stage, free, descending, reading, sweeping}
use Rattle.spg_tree.specs.Table.{Table}
use Rattle.spg_core.specs.Stepping.{IsNearLimit}
use Rattle.spg_core.specs.declared.answer.OpenKind.{OpenKind}
use Rattle.spg_core.specs.declared.answer.OpenKind.TheVariants as kind

abbrev pub IsInserting : {O Key Recon Cond : Type 0} → Stage O Key Recon Cond → Type 0
IsInserting free = ⊥
IsInserting (descending key d) = ⊤
IsInserting (reading s) = ⊥
IsInserting (sweeping v) = ⊥

-- a vacuum
abbrev pub IsSweeping : {O Key Recon Cond : Type 0} → Stage O Key Recon Cond → Type 0
IsSweeping free = ⊥
IsSweeping (descending key d) = ⊥
IsSweeping (reading s) = ⊥
IsSweeping (sweeping v) = ⊤

-- a scan
abbrev pub IsReading : {O Key Recon Cond : Type 0} → Stage O Key Recon Cond → Type 0
IsReading free = ⊥
IsReading (descending key d) = ⊥
IsReading (reading s) = ⊤
IsReading (sweeping v) = ⊥

-- a scan that holds nothing more
abbrev pub IsRead : {O Key Recon Cond : Type 0} → Stage O Key Recon Cond → Type 0
IsRead free = ⊥
IsRead (descending key d) = ⊥
IsRead (reading s) = s.items ≡ []
IsRead (sweeping v) = ⊥

-- how many items a scan holds
abbrev pub held_count : {O Key Recon Cond : Type 0} → Stage O Key Recon Cond → ℕ
held_count free = 0
held_count (descending key d) = 0
held_count (reading s) = length s.items
held_count (sweeping v) = 0

-- the event by which a seat gives its operation up
abbrev pub given_up : {O Key Recon Cond : Type 0} → ℕ → Stage O Key Recon Cond → Why → Event O Key Recon Cond
given_up seat free why = Leave seat
given_up seat (descending key d) why = Drop seat d.row why
given_up seat (reading s) why = Leave seat
given_up seat (sweeping v) why = Leave seat

-- an operation may be given up for this cause: want of room or of clock is a cause for an insert alone, where fewer than 4 blocks are left below the limit, or the clock stands at its end
abbrev pub MayGiveUp : {O Key Recon Cond : Type 0} → Table → Stage O Key Recon Cond → Why → Type 0
MayGiveUp t stage Given = ⊤
MayGiveUp t stage Full = IsInserting stage × IsNearLimit t
MayGiveUp t stage Clock = IsInserting stage × (t.clock + 1 ≡ 2 ^ 48)

-- what `open_of` answers
abbrev pub kind_of : {O Key Recon Cond : Type 0} → Stage O Key Recon Cond → OpenKind
kind_of free = kind.Nothing
kind_of (descending key d) = kind.Insert
kind_of (reading s) = kind.Scan (length s.items)
kind_of (sweeping v) = kind.Vacuum

-- the stage is one of what the seat has open by the journal
abbrev pub IsStageOf : {O Key Recon Cond : Type 0} → Opened O Key Recon Cond → Stage O Key Recon Cond → Type 0
IsStageOf {O} {Key} {Recon} {Cond} opened free = opened ≡ nothing
IsStageOf {O} {Key} {Recon} {Cond} opened (descending key d) = opened ≡ inserting d.row key
IsStageOf {O} {Key} {Recon} {Cond} opened (reading s) = (before : History O Key Recon Cond) × (opened ≡ scanning before s.query)
IsStageOf {O} {Key} {Recon} {Cond} opened (sweeping v) = (before : History O Key Recon Cond) × (opened ≡ vacuuming before)
