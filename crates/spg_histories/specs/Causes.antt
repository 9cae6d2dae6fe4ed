-- Why the commands of a run had their outcomes, beyond their own events.
use Rattle.std.specs.Prelude.{◌≡◌, ◌≢◌, ◌<◌, ◌≤◌, ◌+◌, ◌^◌, ◌++◌, ℕ, true, false, List, [], ◌∷◌, length, reverse, Option, is_none, ⊤}
use Rattle.std.specs.List.{AllZip, AllByRecursion}
use Rattle.spg_base.specs.Row.{RowAt}
use Rattle.spg_base.specs.declared.recorded.Origin.{Origin}
use Rattle.spg_opclass.specs.Meaning.{Meaning}
use Rattle.spg_forest.specs.Sheets.{Sheets}
use Rattle.spg_forest.specs.Walk.{weight_of}
use Rattle.spg_rows.specs.declared.event.Event.{Event}
use Rattle.spg_rows.specs.History.{History, vacuuming, open_of}
use Rattle.spg_rows.specs.Legal.{IsLegal}
use Rattle.spg_rows.specs.Rows.{is_claimed, is_live}
use Rattle.spg_seats.specs.Drops.{was_full, was_clock}
use Rattle.spg_seats.specs.Slots.{opened_keys}
use Rattle.spg_script.specs.declared.any_key.AnyKey.{AnyKey}
use Rattle.spg_script.specs.declared.command.Command.{Command}
use Rattle.spg_script.specs.Speech.{Speech}
use Rattle.spg_report.specs.declared.outcome.Outcome.{Outcome}
use Rattle.spg_report.specs.declared.outcome.Outcome.TheVariants as outcome
use Rattle.spg_report.specs.declared.record.Record.{Record}
use Rattle.spg_histories.specs.Tasks.{Task}
use Rattle.spg_histories.specs.Run.{OfInsert, OfDelete, OfVacuum, Entry, Did, RunOf, IsWithin, past_at}
use Rattle.spg_histories.specs.Telling.{AreOfLanes}

-- an insert of the row could be opened
abbrev pub IsFree : {O Key Recon Cond : Type 0} → RowAt → History O Key Recon Cond → Type 0
IsFree row past = is_claimed row past ≡ false

-- no seat has a vacuum open
abbrev pub NoVacuum : {O Key Recon Cond : Type 0} → History O Key Recon Cond → Type 0
NoVacuum {O} {Key} {Recon} {Cond} past = (seat : ℕ) (opened : History O Key Recon Cond) → open_of seat past ≢ vacuuming opened

-- unless the index was loaded, the keys of the tree that were ever inserted take more than 8,160 bytes
abbrev pub HasOutgrown : {O Key Recon Cond : Type 0} → Meaning Key Recon Cond → Origin → Option AnyKey → History O Key Recon Cond → Type 0
HasOutgrown m origin key past = origin.loaded ≡ false → 8160 < weight_of m (is_none key) (opened_keys past)

-- What the journal says where a command begins, and where it ends: a row that was inserted was free, one that was killed was live, and a vacuum found none open. An index
-- that was full, or whose clock was, had outgrown a page
abbrev pub IsDue : {O Key Recon Cond : Type 0} → Meaning Key Recon Cond → Origin → Command → History O Key Recon Cond → History O Key Recon Cond → Outcome → Type 0
IsDue m origin c before past outcome.Added = OfInsert (λ row key. IsFree row before) c
IsDue m origin c before past outcome.Full = OfInsert (λ row key. IsFree row before × HasOutgrown m origin key past) c
IsDue m origin c before past outcome.ClockFull = OfInsert (λ row key. IsFree row before × HasOutgrown m origin key past) c
IsDue m origin c before past outcome.Killed = OfDelete (λ row. is_live row before ≡ true) c
IsDue m origin c before past (outcome.Vacuumed n) = OfVacuum (NoVacuum before) c
IsDue m origin c before past o = ⊤

abbrev pub IsDueIn : {O Key Recon Cond : Type 0} → Meaning Key Recon Cond → Origin → List (Event O Key Recon Cond) → Task → Record → Type 0
IsDueIn m origin journal t r = IsDue m origin t.command (past_at r.span.from journal) (past_at r.span.to journal) r.outcome

-- the same without what was inserted: this much the events of a command say, where the journal is legal
abbrev pub IsOpened : {O Key Recon Cond : Type 0} → Command → History O Key Recon Cond → Outcome → Type 0
IsOpened c before outcome.Added = OfInsert (λ row key. IsFree row before) c
IsOpened c before outcome.Full = OfInsert (λ row key. IsFree row before) c
IsOpened c before outcome.ClockFull = OfInsert (λ row key. IsFree row before) c
IsOpened c before outcome.Killed = OfDelete (λ row. is_live row before ≡ true) c
IsOpened c before (outcome.Vacuumed n) = OfVacuum (NoVacuum before) c
IsOpened c before o = ⊤

-- and the rest of it
abbrev pub IsTooFull : {O Key Recon Cond : Type 0} → Meaning Key Recon Cond → Origin → Command → History O Key Recon Cond → Outcome → Type 0
IsTooFull m origin c past outcome.Full = OfInsert (λ row key. HasOutgrown m origin key past) c
IsTooFull m origin c past outcome.ClockFull = OfInsert (λ row key. HasOutgrown m origin key past) c
IsTooFull m origin c past o = ⊤

abbrev pub IsTooFullIn : {O Key Recon Cond : Type 0} → Meaning Key Recon Cond → Origin → List (Event O Key Recon Cond) → Task → Record → Type 0
IsTooFullIn m origin journal t r = IsTooFull m origin t.command (past_at r.span.to journal) r.outcome

-- fewer than 4 blocks are left below the limit
abbrev pub IsNearLimit : ℕ → ℕ → Type 0
IsNearLimit limit pages = limit < pages + 4

-- the clock has come to 2^48 - 1
abbrev pub IsAtEnd : ℕ → Type 0
IsAtEnd clock = 2 ^ 48 ≤ clock + 1

-- what the pages say from such an outcome on
abbrev pub IsCaused : ℕ → Sheets → Outcome → Type 0
IsCaused limit S outcome.Full = IsNearLimit limit (length S.sheets)
IsCaused limit S outcome.ClockFull = IsAtEnd S.clock
IsCaused limit S o = ⊤

-- what a count or a save prints from such an outcome on
abbrev pub ShowsPages : ℕ → Outcome → Type 0
ShowsPages limit (outcome.Stat counts) = IsNearLimit limit counts.pages
ShowsPages limit (outcome.Saved pages) = IsNearLimit limit pages
ShowsPages limit o = ⊤

abbrev pub ShowsClock : Outcome → Type 0
ShowsClock (outcome.Stat counts) = IsAtEnd counts.clock
ShowsClock o = ⊤

abbrev pub LaterShow : ℕ → List Record → Outcome → Type 0
LaterShow limit later outcome.Full = AllByRecursion (λ (r : Record). ShowsPages limit r.outcome) later
LaterShow limit later outcome.ClockFull = AllByRecursion (λ (r : Record). ShowsClock r.outcome) later
LaterShow limit later o = ⊤

abbrev pub AreShown : ℕ → List Record → Type 0
AreShown limit [] = ⊤
AreShown limit (r ∷ later) = LaterShow limit later r.outcome × AreShown limit later

-- The causes of the outcomes of a run, over an index of this origin whose pages are these at the end
pub record Causes {O Key Recon Cond : Type 0} (m : Meaning Key Recon Cond) (origin : Origin) (S : Sheets) (journal : List (Event O Key Recon Cond)) (tasks : List Task) (records : List Record) : Type 0 where
  pub due : AllZip (IsDueIn m origin journal) tasks records
  -- where the index or its clock was full, it is so at the end
  pub ends : AllByRecursion (λ (r : Record). IsCaused origin.limit S r.outcome) records
  -- and each later count or save prints so
  pub shown : AreShown origin.limit records

-- no page fewer is there, and the clock is not behind
abbrev pub GrewInto : Sheets → Sheets → Type 0
GrewInto S S2 = (length S.sheets ≤ length S2.sheets) × (S.clock ≤ S2.clock)

-- where an insert was given up since the index was full, or since the clock was at its end, the pages show it still
abbrev pub TellDrops : {O Key Recon Cond : Type 0} → ℕ → Sheets → History O Key Recon Cond → Type 0
TellDrops limit S past = (was_full past ≡ true → IsNearLimit limit (length S.sheets)) × (was_clock past ≡ true → IsAtEnd S.clock)

-- a count or a save prints the pages
abbrev pub PrintsPages : Sheets → Outcome → Type 0
PrintsPages S (outcome.Stat counts) = (counts.pages ≡ length S.sheets) × (counts.clock ≡ S.clock)
PrintsPages S (outcome.Saved pages) = pages ≡ length S.sheets
PrintsPages S o = ⊤

-- the causes of a run go on by one more command, and by lanes
pub record CausesGrow (O Key Recon Cond : Type 0) : Type 0 where
  pub begins : (m : Meaning Key Recon Cond) (origin : Origin) (S : Sheets) (journal : List (Event O Key Recon Cond)) → Causes m origin S journal [] []
  pub goes_on : (m : Meaning Key Recon Cond) (speech : Speech Key Cond) (origin : Origin) (loaded : List (Entry Key)) (old more : List (Event O Key Recon Cond)) (S S2 : Sheets) (tasks : List Task) (records : List Record) (t : Task) (r : Record)
      → RunOf speech loaded tasks old records → Causes m origin S old tasks records → GrewInto S S2 → IsDueIn m origin (old ++ more) t r → IsCaused origin.limit S2 r.outcome → PrintsPages S2 r.outcome
      → Causes m origin S2 (old ++ more) (tasks ++ t ∷ []) (records ++ r ∷ [])
  pub lanes : (m : Meaning Key Recon Cond) (speech : Speech Key Cond) (origin : Origin) (loaded : List (Entry Key)) (old more : List (Event O Key Recon Cond)) (S S2 : Sheets) (tasks block : List Task) (records added : List Record)
      → RunOf speech loaded tasks old records → Causes m origin S old tasks records → AreOfLanes block → AllZip (Did speech (old ++ more)) block added → AllZip (IsDueIn m origin (old ++ more)) block added
      → TellDrops origin.limit S2 (reverse (old ++ more)) → Causes m origin S2 (old ++ more) (tasks ++ block) (records ++ added)
  -- what commands did in a legal journal is their due, but for what was inserted before an index was full
  pub due : (m : Meaning Key Recon Cond) (speech : Speech Key Cond) (origin : Origin) (journal : List (Event O Key Recon Cond)) (tasks : List Task) (records : List Record) → IsLegal (reverse journal)
      → AllZip (Did speech journal) tasks records → AllZip (IsTooFullIn m origin journal) tasks records → AllByRecursion (IsWithin 0 (length journal)) records → AllZip (IsDueIn m origin journal) tasks records
