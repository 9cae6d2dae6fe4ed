-- A small state in which much is open at once, so that no clause of what a state keeps is met by there being nothing.
use Rattle.std.specs.Prelude.{◌≡◌, ◌≢◌, ◌≤◌, ℕ, true, List, [], ◌∷◌, Option}
use Rattle.spg_opclass.specs.Meaning.{Meaning}
use Rattle.spg_forest.specs.View.{Place}
use Rattle.spg_forest.specs.Spot.{Frame}
use Rattle.spg_forest.specs.Tuples.{Tuple, Redirect}
use Rattle.spg_cover.specs.Vacuum.{VacuumHolds, Of}
use Rattle.spg_rows.specs.History.{History}
use Rattle.spg_rows.specs.Targets.{is_target}
use Rattle.spg_tree.specs.Table.{Table, sheets_of, tuple_at}
use Rattle.spg_tree.specs.Descents.{Descending}
use Rattle.spg_scan.specs.Scanning.{Scanning}
use Rattle.spg_scan.specs.Items.{inner, IsItem}
use Rattle.spg_scan.specs.Cover.{IsScanOf}
use Rattle.spg_vacuum.specs.declared.vacuum.Vacuum.{Vacuum}
use Rattle.spg_seats.specs.Descending.{IsInsertOf, holds_block}
use Rattle.spg_core.specs.declared.answer.VacuumOut.{VacuumOut}
use Rattle.spg_core.specs.declared.answer.VacuumOut.TheVariants as outs
use Rattle.spg_core.specs.Stage.{Stage, free, descending, reading, sweeping}
use Rattle.spg_core.specs.Seen.{Seen, stage_at, past_of}
use Rattle.spg_core.specs.Calls.{IsWhole}

-- ---- what is open

-- the seat's insert is on its way below the root: it holds a block that is no root's. It carries its key to where it stands
pub record InsertsBelow {O Key Recon Cond : Type 0} (m : Meaning Key Recon Cond) (seen : Seen O Key Recon Cond) (seat : ℕ) : Type 0 where
  pub key : Option Key
  pub descent : Descending Recon
  pub stage : stage_at seen seat ≡ descending key descent
  pub block : ℕ
  pub below : 3 ≤ block
  pub holds : holds_block descent block ≡ true
  pub is : IsInsertOf m seen.table (past_of seen) seat key descent

-- the seat's scan holds an inner tuple that it copied. What it holds covers the rows that it must give
pub record ScansCopy {O Key Recon Cond : Type 0} (m : Meaning Key Recon Cond) (seen : Seen O Key Recon Cond) (seat : ℕ) : Type 0 where
  pub scan : Scanning O Key Recon Cond
  pub stage : stage_at seen seat ≡ reading scan
  pub item : ℕ
  pub recon : Option Recon
  pub tuple : Frame
  pub links : List (Option Place)
  pub copied : IsItem scan.items item (inner recon tuple links)
  pub before : History O Key Recon Cond
  pub is : IsScanOf m (sheets_of seen.table) before (past_of seen) scan

-- a redirect of this stamp or later
abbrev pub IsRedirectSince : Tuple → ℕ → Type 0
IsRedirectSince tuple since = (to : Place) × (stamp : ℕ) × (tuple ≡ Redirect to stamp) × (since ≤ stamp)

-- one stands in the index
pub record Redirects (t : Table) (since : ℕ) : Type 0 where
  pub at : Place
  pub redirect : IsRedirectSince (tuple_at t at) since

-- the seat's vacuum has a done place, and still one to do; there is a redirect that is not too old for it. What it has still to see covers the rows that it must sweep
pub record SweepsOn {O Key Recon Cond : Type 0} (m : Meaning Key Recon Cond) (seen : Seen O Key Recon Cond) (seat : ℕ) : Type 0 where
  pub vacuum : Vacuum
  pub stage : stage_at seen seat ≡ sweeping vacuum
  pub place : Place
  pub places : List Place
  pub done : vacuum.pending.done ≡ place ∷ places
  pub redirects : Redirects seen.table vacuum.stamp
  pub before : History O Key Recon Cond
  pub cover : VacuumHolds m (sheets_of seen.table) vacuum.stamp vacuum.next vacuum.pending.done vacuum.pending.todo (Of (is_target before (past_of seen)))

-- All three are open at once in a state that keeps all that a state keeps
pub record IsSmall {O Key Recon Cond : Type 0} (m : Meaning Key Recon Cond) (seen : Seen O Key Recon Cond) : Type 0 where
  pub whole : IsWhole m seen
  pub inserter : ℕ
  pub inserts : InsertsBelow m seen inserter
  pub scanner : ℕ
  pub scans : ScansCopy m seen scanner
  pub sweeper : ℕ
  pub sweeps : SweepsOn m seen sweeper

-- ---- how it comes about

-- a call of one seat leaves what the others have open
abbrev pub OthersStay : {O Key Recon Cond : Type 0} → Seen O Key Recon Cond → Seen O Key Recon Cond → ℕ → Type 0
OthersStay old new seat = (other : ℕ) → seat ≢ other → stage_at new other ≡ stage_at old other

-- the block at which a vacuum is
abbrev pub next_of : {O Key Recon Cond : Type 0} → Stage O Key Recon Cond → ℕ
next_of free = 0
next_of (descending key d) = 0
next_of (reading s) = 0
next_of (sweeping v) = v.next

-- another seat has latched this block, to which the vacuum came
abbrev pub IsLatchedAt : VacuumOut → ℕ → Type 0
IsLatchedAt outs.Block b = ⊥
IsLatchedAt outs.Pending b = ⊥
IsLatchedAt (outs.Latched block by) b = block ≡ b
IsLatchedAt (outs.Finished swept) b = ⊥

-- a vacuum with a place to do
abbrev pub HasMore : {O Key Recon Cond : Type 0} → Stage O Key Recon Cond → Type 0
HasMore free = ⊥
HasMore (descending key d) = ⊥
HasMore (reading s) = ⊥
HasMore (sweeping v) = v.pending.todo ≢ []

-- a vacuum with a done place
abbrev pub HasDone : {O Key Recon Cond : Type 0} → Stage O Key Recon Cond → Type 0
HasDone free = ⊥
HasDone (descending key d) = ⊥
HasDone (reading s) = ⊥
HasDone (sweeping v) = (place : Place) × (places : List Place) × (v.pending.done ≡ place ∷ places)

-- a scan with a copied inner tuple
abbrev pub HasCopy : {O Key Recon Cond : Type 0} → Stage O Key Recon Cond → Type 0
HasCopy free = ⊥
HasCopy (descending key d) = ⊥
HasCopy {O} {Key} {Recon} {Cond} (reading s) = (item : ℕ) × (recon : Option Recon) × (tuple : Frame) × (links : List (Option Place)) × IsItem s.items item (inner recon tuple links)
HasCopy (sweeping v) = ⊥
