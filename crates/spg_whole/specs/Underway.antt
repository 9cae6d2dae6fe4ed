-- How far the command of a seat has come.
use Rattle.std.specs.Prelude.{◌≡◌, ◌⊎◌, ◌<◌, ◌≤◌, ◌+◌, ◌-◌, ◌++◌, ℕ, zero, suc, false, List, [], ◌∷◌, length, is_none, Option, Some, ⊤}
use Rattle.spg_base.specs.Row.{RowAt}
use Rattle.spg_opclass.specs.Meaning.{Meaning}
use Rattle.spg_opclass.specs.declared.query.Query.{Query}
use Rattle.spg_forest.specs.View.{Place}
use Rattle.spg_forest.specs.Spot.{Spot, Branch}
use Rattle.spg_forest.specs.Pages.{place}
use Rattle.spg_forest.specs.Sheets.{Sheets}
use Rattle.spg_forest.specs.Shape.{spots}
use Rattle.spg_forest.specs.Ranks.{most_sections}
use Rattle.spg_forest.specs.Walk.{weight_of}
use Rattle.spg_rows.specs.declared.event.Event.TheVariants.{CloseVacuum}
use Rattle.spg_tree.specs.Table.{Table, sheets_of}
use Rattle.spg_scan.specs.Items.{Item, held, inner, leaves, IsItem}
use Rattle.spg_scan.specs.Scanning.{Scanning, counted, IsAskedAt}
use Rattle.spg_scan.specs.Reading.{followed_at}
use Rattle.spg_scan.specs.Rest.{IsAtRest}
use Rattle.spg_seats.specs.Opening.{sweeps}
use Rattle.spg_core.specs.Stage.{Stage, free, descending, reading, sweeping, IsRead, IsSweeping}
use Rattle.spg_core.specs.Stepping.{SamePages, Grows}
use Rattle.spg_core.specs.Through.{IsInsertOf}
use Rattle.spg_core.specs.Seen.{Seen, stage_at, past_of, KeepsClass}
use Rattle.spg_core.specs.Weight.{opened_keys}
use Rattle.spg_core.specs.declared.answer.OpenRefused.{OpenRefused}
use Rattle.spg_core.specs.declared.answer.OpenRefused.TheVariants as open_refused
use Rattle.spg_whole.specs.declared.refused.InsertRefused.{InsertRefused}
use Rattle.spg_whole.specs.declared.refused.InsertRefused.TheVariants as refused

-- the keys of the tree of the seat's insert that were ever inserted take more than 8,160 bytes, where the state was not loaded
abbrev pub HasOutgrown : {O Key Recon Cond : Type 0} → Meaning Key Recon Cond → Seen O Key Recon Cond → ℕ → Type 0
HasOutgrown {O} {Key} m seen seat = (row : RowAt) (key : Option Key) → IsInsertOf row key (stage_at seen seat) → seen.origin.loaded ≡ false → 8160 < weight_of m (is_none key) (opened_keys (past_of seen))

-- a scan is open
abbrev pub IsScanning : {O Key Recon Cond : Type 0} → Stage O Key Recon Cond → Type 0
IsScanning free = ⊥
IsScanning (descending key d) = ⊥
IsScanning (reading s) = ⊤
IsScanning (sweeping v) = ⊥

-- the class may be asked at the main root by the query, or the scan still holds that root
abbrev pub MayAsk : {O Key Recon Cond : Type 0} → Meaning Key Recon Cond → Sheets → Scanning O Key Recon Cond → Type 0
MayAsk m S s = IsAskedAt m (spots S (place 1 0)) s.query (Some m.start) ⊎ ((i : ℕ) × IsItem s.items i (held (place 1 0) (Some m.start)))

-- a scan of this query over pages at rest
abbrev pub IsRestingScan : {O Key Recon Cond : Type 0} → Meaning Key Recon Cond → Sheets → Query O Key Recon Cond → Stage O Key Recon Cond → Type 0
IsRestingScan m S query free = ⊥
IsRestingScan m S query (descending key d) = ⊥
IsRestingScan m S query (reading s) = (s.query ≡ query) × (counted s.met ≡ s.met) × IsAtRest m S s × MayAsk m S s
IsRestingScan m S query (sweeping v) = ⊥

-- no event was written since, the pages are as they were, and a scan over pages at rest still is one
pub record ReadsOn {O Key Recon Cond : Type 0} (m : Meaning Key Recon Cond) (old new : Seen O Key Recon Cond) (seat : ℕ) : Type 0 where
  pub journal : new.journal ≡ old.journal
  pub origin : new.origin ≡ old.origin
  pub class : KeepsClass old new
  pub pages : SamePages old.table new.table
  pub scanning : IsScanning (stage_at old seat) → IsScanning (stage_at new seat)
  pub scan : (query : Query O Key Recon Cond) → IsRestingScan m (sheets_of old.table) query (stage_at old seat) → IsRestingScan m (sheets_of old.table) query (stage_at new seat)

-- the same, and the scan holds nothing more
pub record ReadsToEnd {O Key Recon Cond : Type 0} (m : Meaning Key Recon Cond) (old new : Seen O Key Recon Cond) (seat : ℕ) : Type 0 where
  pub reads : ReadsOn m old new seat
  pub end : IsRead (stage_at new seat)

-- the seat's vacuum swept these rows one after another, and goes on if it was open: no other event was written since, no page was lost, and the clock did not go back
pub record SweepsOn {O Key Recon Cond : Type 0} (old new : Seen O Key Recon Cond) (seat : ℕ) : Type 0 where
  pub rows : List RowAt
  pub journal : new.journal ≡ old.journal ++ sweeps seat rows
  pub origin : new.origin ≡ old.origin
  pub class : KeepsClass old new
  pub grows : Grows old.table new.table
  pub sweeping : IsSweeping (stage_at old seat) → IsSweeping (stage_at new seat)

-- it swept these rows one after another, and then was closed with this number
pub record SweepsToEnd {O Key Recon Cond : Type 0} (old new : Seen O Key Recon Cond) (seat swept : ℕ) : Type 0 where
  pub rows : List RowAt
  pub journal : new.journal ≡ old.journal ++ (sweeps seat rows ++ CloseVacuum seat swept ∷ [])
  pub origin : new.origin ≡ old.origin
  pub class : KeepsClass old new
  pub grows : Grows old.table new.table
  pub end : stage_at new seat ≡ free

-- why an insert is refused that was not opened, where no row waits for a seat
abbrev pub IsUnopened : OpenRefused → InsertRefused → Type 0
IsUnopened open_refused.RowUsed e = e ≡ refused.RowUsed
IsUnopened (open_refused.RowHeld by) e = ⊥
IsUnopened open_refused.Memory e = e ≡ refused.Memory

-- ---- a scan comes to its end

-- some query's scan over pages at rest
abbrev pub IsRestingFor : {O Key Recon Cond : Type 0} → Meaning Key Recon Cond → Sheets → Stage O Key Recon Cond → Type 0
IsRestingFor {O} {Key} {Recon} {Cond} m S stage = (query : Query O Key Recon Cond) × IsRestingScan m S query stage

abbrev pub sum_of : {X : Type 0} → (X → ℕ) → List X → ℕ
sum_of f [] = 0
sum_of f (x ∷ xs) = f x + sum_of f xs

-- a read of what stands at a place, and all reads below it, where `below` tells those of a child
abbrev pub spot_reads : {O Key Recon Cond : Type 0} → Meaning Key Recon Cond → Query O Key Recon Cond → (Place × Option Recon → ℕ) → Option Recon → Spot → ℕ
spot_reads m query below r (Branch w ns) = suc (sum_of below (followed_at m query r w ns))
spot_reads m query below r _ = 1

-- how many reads the query makes from a place on, where no way down from it is longer than n
abbrev pub place_reads : {O Key Recon Cond : Type 0} → Meaning Key Recon Cond → (Place → Spot) → Query O Key Recon Cond → ℕ → Place × Option Recon → ℕ
place_reads m V query zero y = 1
place_reads m V query (suc n) y = spot_reads m query (place_reads m V query n) y.1 (V y.0)

abbrev pub item_reads : {O Key Recon Cond : Type 0} → Meaning Key Recon Cond → (Place → Spot) → Query O Key Recon Cond → ℕ → Item Recon → ℕ
item_reads m V query n (held x r) = place_reads m V query n (x, r)
item_reads m V query n (inner q w ns) = suc (sum_of (place_reads m V query n) (followed_at m query q w ns))
item_reads m V query n (leaves q ls) = 1

-- how many reads are left of a scan while the pages stay as they are
abbrev pub reads_left : {O Key Recon Cond : Type 0} → Meaning Key Recon Cond → Sheets → Stage O Key Recon Cond → ℕ
reads_left m S free = 0
reads_left m S (descending key d) = 0
reads_left m S (reading s) = sum_of (item_reads m (spots S) s.query (most_sections S)) s.items
reads_left m S (sweeping v) = 0

-- ---- a vacuum comes to its end

-- a vacuum that has no place to see, where no redirect is as late as it
abbrev pub IsAlone : {O Key Recon Cond : Type 0} → Table → Stage O Key Recon Cond → Type 0
IsAlone t free = ⊥
IsAlone t (descending key d) = ⊥
IsAlone t (reading s) = ⊥
IsAlone t (sweeping v) = (v.pending.todo ≡ []) × (t.clock ≤ v.stamp)

-- how many blocks it has still to handle
abbrev pub blocks_left : {O Key Recon Cond : Type 0} → Table → Stage O Key Recon Cond → ℕ
blocks_left t free = 0
blocks_left t (descending key d) = 0
blocks_left t (reading s) = 0
blocks_left t (sweeping v) = length t.pages - v.next

-- what the sections of a vacuum beside which nothing is open have done, and that it goes on so
pub record SweepsAlone {O Key Recon Cond : Type 0} (old new : Seen O Key Recon Cond) (seat : ℕ) : Type 0 where
  pub sweeps : SweepsOn old new seat
  pub alone : IsAlone new.table (stage_at new seat)
