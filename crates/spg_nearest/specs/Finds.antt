-- What a search for the nearest rows does, where no one else uses the index meanwhile.
use Rattle.std.specs.Prelude.{ℕ, List, [], ◌∷◌, Option}
use Rattle.spg_base.specs.declared.point.Point.{Point}
use Rattle.spg_opclass.specs.Meaning.{Meaning}
use Rattle.spg_opclass.specs.declared.query.Query.TheVariants.{All}
use Rattle.spg_rows.specs.declared.event.Event.TheVariants.{OpenScan, Leave}
use Rattle.spg_tree.specs.Table.{sheets_of}
use Rattle.spg_core.specs.Seen.{Seen, past_of}
use Rattle.spg_core.specs.Stepping.{SamePages}
use Rattle.spg_near.specs.declared.near_row.NearRow.{NearRow}
use Rattle.spg_near.specs.Nearing.{Boxing}
use Rattle.spg_near.specs.NearRest.{NearWalk, IsReach}
use Rattle.spg_near.specs.NearRight.{NearRight}
use Rattle.spg_whole.specs.Calls.{Did}

-- a scan of all rows was opened and left: these are the nearest rows, and so many tuples stand within the last distance
pub record FindsNearest {O Recon Cond : Type 0} (m : Meaning Point Recon Cond) (boxing : Boxing Recon) (old new : Seen O Point Recon Cond) (seat : ℕ) (target : Point) (limit : ℕ) (rows : List NearRow) (met : ℕ) : Type 0 where
  pub did : Did old new (OpenScan seat All ∷ Leave seat ∷ [])
  pub pages : SamePages old.table new.table
  pub right : NearRight (past_of old) (OpenScan seat All ∷ past_of old) target limit rows
  pub walk : (last : Option ℕ) → IsReach limit rows last → NearWalk m boxing (sheets_of old.table) target last met
