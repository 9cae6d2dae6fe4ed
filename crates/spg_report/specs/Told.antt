-- What a printed line tells of an event and of a record, and which values can be printed.
use Rattle.std.specs.Prelude.{◌≡◌, ◌<◌, ◌^◌, ℕ, List, [], length, Option, Some, None, ⊤}
use Rattle.std.specs.List.{AllByRecursion}
use Rattle.spg_base.specs.Row.{RowAt}
use Rattle.spg_base.specs.declared.recorded.Stat.{Stat}
use Rattle.spg_rows.specs.declared.event.Event.{Event}
use Rattle.spg_rows.specs.declared.event.Event.TheVariants.{OpenInsert, Put, Drop, Kill, OpenScan, CloseScan, OpenVacuum, Sweep, CloseVacuum, Leave}
use Rattle.spg_rows.specs.declared.event.Why.TheVariants as cause
use Rattle.spg_rows.specs.History.{seat_of}
use Rattle.spg_near.specs.declared.near_row.NearRow.{NearRow}
use Rattle.spg_report.specs.declared.outcome.Outcome.{Outcome}
use Rattle.spg_report.specs.declared.outcome.Outcome.TheVariants as outcome
use Rattle.spg_report.specs.declared.record.Record.{Record}
use Rattle.spg_script.specs.declared.any_key.AnyKey.{AnyKey}
use Rattle.spg_script.specs.declared.any_query.AnyQuery.{AnyQuery}
use Rattle.spg_script.specs.declared.key_form.KeyForm.{KeyForm}
use Rattle.spg_script.specs.Spelling.{IsRow}
use Rattle.spg_script.specs.Speech.{Speech, key_or_null_in, query_in}
use Rattle.spg_script.specs.Laws.{IsKeyOrNull, IsQuery}

-- what a line tells of an event: all but why an insert was dropped, and a scan's rows
abbrev pub told : {O Key Recon Cond : Type 0} → Event O Key Recon Cond → Event O Key Recon Cond
told (OpenInsert seat row key) = OpenInsert seat row key
told (Put seat row) = Put seat row
told (Drop seat row why) = Drop seat row cause.Given
told (Kill seat row) = Kill seat row
told (OpenScan seat query) = OpenScan seat query
told (CloseScan seat rows) = CloseScan seat []
told (OpenVacuum seat) = OpenVacuum seat
told (Sweep seat row) = Sweep seat row
told (CloseVacuum seat swept) = CloseVacuum seat swept
told (Leave seat) = Leave seat

-- the numbers of an event fit their types
abbrev pub Fits : {O Key Recon Cond : Type 0} → Event O Key Recon Cond → Type 0
Fits (OpenInsert seat row key) = IsRow row
Fits (Put seat row) = IsRow row
Fits (Drop seat row why) = IsRow row
Fits (Kill seat row) = IsRow row
Fits (OpenScan seat query) = ⊤
Fits (CloseScan seat rows) = length rows < 2 ^ 64
Fits (OpenVacuum seat) = ⊤
Fits (Sweep seat row) = IsRow row
Fits (CloseVacuum seat swept) = swept < 2 ^ 64
Fits (Leave seat) = ⊤

-- its key, or its query, is one that scripts of a class with such keys name
abbrev pub IsNamed : {O Key Recon Cond : Type 0} → KeyForm → Speech Key Cond → Event O Key Recon Cond → Type 0
IsNamed keys speech (OpenInsert seat row key) = (named : Option AnyKey) × (key_or_null_in speech named ≡ Some key) × IsKeyOrNull keys named
IsNamed keys speech (Put seat row) = ⊤
IsNamed keys speech (Drop seat row why) = ⊤
IsNamed keys speech (Kill seat row) = ⊤
IsNamed keys speech (OpenScan seat query) = (named : AnyQuery) × (query_in speech named ≡ Some query) × IsQuery keys named
IsNamed keys speech (CloseScan seat rows) = ⊤
IsNamed keys speech (OpenVacuum seat) = ⊤
IsNamed keys speech (Sweep seat row) = ⊤
IsNamed keys speech (CloseVacuum seat swept) = ⊤
IsNamed keys speech (Leave seat) = ⊤

-- the numbers of a record fit their types
pub record FitsStat (s : Stat) : Type 0 where
  pub pages : s.pages < 2 ^ 64
  pub inner : s.inner < 2 ^ 64
  pub leaf : s.leaf < 2 ^ 64
  pub redirect : s.redirect < 2 ^ 64
  pub dead : s.dead < 2 ^ 64
  pub placeholder : s.placeholder < 2 ^ 64
  pub clock : s.clock < 2 ^ 64

abbrev pub FitsFound : List RowAt → Option ℕ → Type 0
FitsFound rows None = AllByRecursion IsRow rows × (length rows < 2 ^ 64)
FitsFound rows (Some walk) = AllByRecursion IsRow rows × (length rows < 2 ^ 64) × (walk < 2 ^ 64)

abbrev pub FitsNearRow : NearRow → Type 0
FitsNearRow h = IsRow h.row × (h.distance < 2 ^ 128)

abbrev pub FitsNear : List NearRow → ℕ → Type 0
FitsNear rows walk = AllByRecursion FitsNearRow rows × (length rows < 2 ^ 64) × (walk < 2 ^ 64)

abbrev pub FitsOutcome : Outcome → Type 0
FitsOutcome outcome.Added = ⊤
FitsOutcome outcome.RowUsed = ⊤
FitsOutcome (outcome.RowHeld by) = by < 2 ^ 64
FitsOutcome outcome.Full = ⊤
FitsOutcome outcome.ClockFull = ⊤
FitsOutcome outcome.Killed = ⊤
FitsOutcome outcome.NotLive = ⊤
FitsOutcome (outcome.Found rows walk) = FitsFound rows walk
FitsOutcome (outcome.Vacuumed swept) = swept < 2 ^ 64
FitsOutcome (outcome.OpenBy seat) = seat < 2 ^ 64
FitsOutcome (outcome.Saved pages) = pages < 2 ^ 64
FitsOutcome outcome.ImageFault = ⊤
FitsOutcome (outcome.Stat counts) = FitsStat counts
FitsOutcome (outcome.Near rows walk) = FitsNear rows walk
FitsOutcome outcome.Memory = ⊤

-- one number, or none, for each row that was found, and no entry for any other outcome
abbrev pub AreValuesFor : Outcome → List (Option ℕ) → Type 0
AreValuesFor outcome.Added values = values ≡ []
AreValuesFor outcome.RowUsed values = values ≡ []
AreValuesFor (outcome.RowHeld by) values = values ≡ []
AreValuesFor outcome.Full values = values ≡ []
AreValuesFor outcome.ClockFull values = values ≡ []
AreValuesFor outcome.Killed values = values ≡ []
AreValuesFor outcome.NotLive values = values ≡ []
AreValuesFor (outcome.Found rows walk) values = length values ≡ length rows
AreValuesFor (outcome.Vacuumed swept) values = values ≡ []
AreValuesFor (outcome.OpenBy seat) values = values ≡ []
AreValuesFor (outcome.Saved pages) values = values ≡ []
AreValuesFor outcome.ImageFault values = values ≡ []
AreValuesFor (outcome.Stat counts) values = values ≡ []
AreValuesFor (outcome.Near rows walk) values = values ≡ []
AreValuesFor outcome.Memory values = values ≡ []

pub record FitsRecord (r : Record) : Type 0 where
  pub from : r.span.from < 2 ^ 64
  pub to : r.span.to < 2 ^ 64
  pub says : FitsOutcome r.outcome

-- an event can be printed
pub record CanBePrinted {O Key Recon Cond : Type 0} (keys : KeyForm) (speech : Speech Key Cond) (e : Event O Key Recon Cond) : Type 0 where
  pub seat : seat_of e < 2 ^ 64
  pub fits : Fits e
  pub named : IsNamed keys speech e
