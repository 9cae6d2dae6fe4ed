-- What the sections of an insert do one after another.
use Rattle.std.specs.Prelude.{◌≡◌, ◌≢◌, ◌++◌, ℕ, ⊤, List, [], ◌∷◌, Option, Some}
use Rattle.spg_base.specs.Row.{RowAt}
use Rattle.spg_opclass.specs.Meaning.{Meaning}
use Rattle.spg_rows.specs.declared.event.Event.TheVariants as event
use Rattle.spg_tree.specs.Table.{sheets_of, latch_at}
use Rattle.spg_scan.specs.Others.{ChangesPages}
use Rattle.spg_seats.specs.Descending.{ChangesHeld}
use Rattle.spg_core.specs.declared.answer.InsertOut.{InsertOut}
use Rattle.spg_core.specs.declared.answer.InsertOut.TheVariants as outs
use Rattle.spg_core.specs.declared.answer.InsertRan.{InsertRan}
use Rattle.spg_core.specs.declared.answer.InsertRan.TheVariants.{Put, Restarted}
use Rattle.spg_core.specs.Stage.{Stage, free, descending, reading, sweeping}
use Rattle.spg_core.specs.Seen.{Seen, stage_at, past_of, KeepsClass}
use Rattle.spg_core.specs.Stepping.{Grows}
use Rattle.spg_core.specs.Sections.{HasNone, OthersHold}
use Rattle.spg_core.specs.Looking.{StepsInsert}

-- an insert of this row, with this key or a null
abbrev pub IsInsertOf : {O Key Recon Cond : Type 0} → RowAt → Option Key → Stage O Key Recon Cond → Type 0
IsInsertOf row key free = ⊥
IsInsertOf row key (descending k d) = (k ≡ key) × (d.row ≡ row)
IsInsertOf row key (reading s) = ⊥
IsInsertOf row key (sweeping v) = ⊥

-- no event was written since, the class is as before, and an insert of a row and a key that the seat had open is open still
pub record StillInserts {O Key Recon Cond : Type 0} (old new : Seen O Key Recon Cond) (seat : ℕ) : Type 0 where
  pub journal : new.journal ≡ old.journal
  pub origin : new.origin ≡ old.origin
  pub class : KeepsClass old new
  pub insert : (row : RowAt) (key : Option Key) → IsInsertOf row key (stage_at old seat) → IsInsertOf row key (stage_at new seat)

-- the seat's insert has ended, and its row is put
pub record PutsRow {O Key Recon Cond : Type 0} (old new : Seen O Key Recon Cond) (seat : ℕ) : Type 0 where
  pub journal : (row : RowAt) (key : Option Key) → IsInsertOf row key (stage_at old seat) → new.journal ≡ old.journal ++ event.Put seat row ∷ []
  pub origin : new.origin ≡ old.origin
  pub class : KeepsClass old new
  pub stage : stage_at new seat ≡ free

-- what came of the sections: the row is put, or the insert was sent back, since another seat has latched the block; the seat has nothing latched then
abbrev pub RunsThrough : {O Key Recon Cond : Type 0} → Seen O Key Recon Cond → Seen O Key Recon Cond → ℕ → InsertRan → Type 0
RunsThrough old new seat Put = PutsRow old new seat × HasNone new.table seat
RunsThrough old new seat (Restarted block by) = StillInserts old new seat × HasNone new.table seat × (latch_at new.table block ≡ Some by) × (by ≢ seat)

-- ---- one section after another

-- after a section with this outcome the insert goes on
abbrev pub IsOnItsWay : InsertOut → Type 0
IsOnItsWay outs.Descended = ⊤
IsOnItsWay outs.Restructured = ⊤
IsOnItsWay (outs.Restarted block by) = ⊥
IsOnItsWay outs.Put = ⊥

-- one section of the seat's insert: all that `insert_step` tells of one that was done
pub record DoesSection {O Key Recon Cond : Type 0} (m : Meaning Key Recon Cond) (old new : Seen O Key Recon Cond) (seat : ℕ) (out : InsertOut) : Type 0 where
  pub steps : StepsInsert m old new seat out
  pub changes : ChangesPages m (past_of old) seat (sheets_of old.table) (sheets_of new.table) new.table.touched 0
  pub others : OthersHold old.table new.table seat
  pub within : ChangesHeld old.table new.table seat
  pub grows : Grows old.table new.table

-- sections of the seat's insert with these outcomes, each from the state that the one before it left; the insert goes on after each
abbrev pub DoesSections : {O Key Recon Cond : Type 0} → Meaning Key Recon Cond → Seen O Key Recon Cond → Seen O Key Recon Cond → ℕ → List InsertOut → Type 0
DoesSections m old new seat [] = new ≡ old
DoesSections {O} {Key} {Recon} {Cond} m old new seat (out ∷ later) = IsOnItsWay out × (next : Seen O Key Recon Cond) × DoesSection m old next seat out × DoesSections m next new seat later

-- some sections
abbrev pub StepsOn : {O Key Recon Cond : Type 0} → Meaning Key Recon Cond → Seen O Key Recon Cond → Seen O Key Recon Cond → ℕ → Type 0
StepsOn m old new seat = (outcomes : List InsertOut) × DoesSections m old new seat outcomes

-- the outcome of the last section
abbrev pub last_out : InsertRan → InsertOut
last_out Put = outs.Put
last_out (Restarted block by) = outs.Restarted block by

-- some sections, and then one that ends the call
abbrev pub StepsThrough : {O Key Recon Cond : Type 0} → Meaning Key Recon Cond → Seen O Key Recon Cond → Seen O Key Recon Cond → ℕ → InsertRan → Type 0
StepsThrough {O} {Key} {Recon} {Cond} m old new seat ran = (last : Seen O Key Recon Cond) × StepsOn m old last seat × DoesSection m last new seat (last_out ran)

-- the other seats have open what they had
abbrev pub OthersStay : {O Key Recon Cond : Type 0} → Seen O Key Recon Cond → Seen O Key Recon Cond → ℕ → Type 0
OthersStay old new seat = (other : ℕ) → other ≢ seat → stage_at new other ≡ stage_at old other
