-- What a class answers that is asked for the rows nearest to a point.
use Rattle.std.specs.Prelude.{◌≡◌, ℕ, List, [], ◌∷◌, Option, Some, None}
use Rattle.spg_base.specs.declared.point.Point.{Point}
use Rattle.spg_opclass.specs.Meaning.{Meaning}
use Rattle.spg_opclass.specs.declared.query.Query.TheVariants.{All}
use Rattle.spg_rows.specs.declared.event.Event.TheVariants.{OpenScan, Leave}
use Rattle.spg_tree.specs.Table.{sheets_of}
use Rattle.spg_core.specs.Seen.{Seen, past_of}
use Rattle.spg_core.specs.Stepping.{SamePages}
use Rattle.spg_near.specs.declared.near_row.NearRow.{NearRow}
pub use Rattle.spg_nearest.specs.declared.nearest.Nearest.{Nearest}
use Rattle.spg_script.specs.Speech.{Speech}
use Rattle.spg_whole.specs.Calls.{Did}
use Rattle.spg_histories.specs.Nearest.{IsKeyOf, AreNearest, WalksNear}

-- a scan of all rows was opened and left: these are the nearest rows, and so many tuples stand within the last distance
pub record ServesNear {O Key Recon Cond : Type 0} (m : Meaning Key Recon Cond) (speech : Speech Key Cond) (old new : Seen O Key Recon Cond) (seat : ℕ) (target : Point) (limit : ℕ) (rows : List NearRow) (met : ℕ) : Type 0 where
  pub did : Did old new (OpenScan seat All ∷ Leave seat ∷ [])
  pub pages : SamePages old.table new.table
  pub right : AreNearest speech (past_of old) (OpenScan seat All ∷ past_of old) target limit rows
  pub walk : WalksNear m speech (sheets_of new.table) target limit rows met

-- there is no answer where the point is no key of the class, and then nothing was done
abbrev pub IsServed : {O Key Recon Cond : Type 0} → Meaning Key Recon Cond → Speech Key Cond → Seen O Key Recon Cond → Seen O Key Recon Cond → ℕ → Point → ℕ → Option Nearest → Type 0
IsServed {O} {Key} m speech old new seat target limit None = ((key : Key) → IsKeyOf speech target key → ⊥) × (new ≡ old)
IsServed m speech old new seat target limit (Some found) = ServesNear m speech old new seat target limit found.rows found.met
