-- A search of one moment: the pages and the states of rows stay as they are meanwhile.
use Rattle.std.specs.Prelude.{◌≡◌, ◌≢◌, ℕ, ◌∷◌, Option, Some}
use Rattle.spg_base.specs.Row.{RowAt}
use Rattle.spg_base.specs.declared.point.Point.{Point}
use Rattle.spg_opclass.specs.Meaning.{Meaning}
use Rattle.spg_opclass.specs.declared.query.Query.TheVariants.{All}
use Rattle.spg_forest.specs.Shape.{Represents}
use Rattle.spg_rows.specs.declared.event.Event.TheVariants.{OpenScan}
use Rattle.spg_rows.specs.History.{History}
use Rattle.spg_rows.specs.Legal.{IsLegal}
use Rattle.spg_rows.specs.Present.{IsPresentWith}
use Rattle.spg_rows.specs.Rows.{state_of}
use Rattle.spg_rows.specs.Table as rows
use Rattle.spg_tree.specs.Table.{Table, sheets_of, latch_at}
use Rattle.spg_scan.specs.Scanning.{counted}
use Rattle.spg_scan.specs.declared.walk.ReadOut.{ReadOut}
use Rattle.spg_scan.specs.declared.walk.ReadOut.TheVariants.{Read, Latched}
use Rattle.spg_near.specs.declared.moment.Sought.{Sought}
use Rattle.spg_near.specs.declared.moment.Sought.TheVariants as sought
use Rattle.spg_near.specs.Nearing.{Boxing, Nearing, IsDone}
use Rattle.spg_near.specs.Cover.{IsNearOf}
use Rattle.spg_near.specs.NearRest.{IsNearAtRest, NearWalk, IsReach}
use Rattle.spg_near.specs.NearRight.{NearRight}

-- the seat has nothing open after this journal, and the pages and the row table are what it says
pub record IsNow {O Recon Cond : Type 0} (m : Meaning Point Recon Cond) (seat : ℕ) (past : History O Point Recon Cond) (t : Table) (states : rows.Table O Point Recon Cond) : Type 0 where
  pub legal : IsLegal (OpenScan seat All ∷ past)
  pub holds : Represents m (sheets_of t) (IsPresentWith past)
  pub told : (r : RowAt) → rows.state_in states r ≡ state_of r past

-- a search of that moment, as if a scan of all rows had opened for it
pub record IsOpenNow {O Recon Cond : Type 0} (m : Meaning Point Recon Cond) (boxing : Boxing Recon) (seat : ℕ) (past : History O Point Recon Cond) (t : Table) (states : rows.Table O Point Recon Cond) (n : Nearing Recon) : Type 0 where
  pub now : IsNow m seat past t states
  pub near : IsNearOf m (sheets_of t) past (OpenScan seat All ∷ past) n
  pub rest : IsNearAtRest m boxing (sheets_of t) n

-- where the reads end: nothing has to be read, or another seat holds the block of the next item
abbrev pub IsReadTo : {Recon : Type 0} → Table → ℕ → Nearing Recon → ReadOut → Type 0
IsReadTo t seat n Read = IsDone n
IsReadTo t seat n (Latched block by) = (latch_at t block ≡ Some by) × (by ≢ seat)

-- the rows are the nearest after this journal, and as many tuples were met as stand at places whose bound is at most the last distance; or the search came to a block that another seat holds
abbrev pub IsSought : {O Recon Cond : Type 0} → Meaning Point Recon Cond → Boxing Recon → ℕ → History O Point Recon Cond → Table → Point → ℕ → Sought → Type 0
IsSought m boxing seat past t target limit (sought.Found rows met) =
    NearRight past (OpenScan seat All ∷ past) target limit rows × ((last : Option ℕ) → IsReach limit rows last → (w : ℕ) × NearWalk m boxing (sheets_of t) target last w × (counted w ≡ met))
IsSought m boxing seat past t target limit (sought.Latched block by) = (latch_at t block ≡ Some by) × (by ≢ seat)
