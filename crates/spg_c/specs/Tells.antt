-- What whole calls answer, as C is told of it.
use Rattle.std.specs.Prelude.{◌≡◌, ◌⊎◌, ◌<◌, ℕ, true, false, List, length, Option, Some, Result, Ok, Err}
use Rattle.spg_base.specs.Row.{RowAt}
use Rattle.spg_base.specs.declared.point.Point.{Point}
use Rattle.spg_opclass.specs.Meaning.{Meaning}
use Rattle.spg_opclass.specs.declared.query.Query.{Query}
use Rattle.spg_core.specs.Seen.{Seen, past_of}
use Rattle.spg_near.specs.Nearest.{AreNearest}
use Rattle.spg_near.specs.declared.near_row.NearRow.{NearRow}
use Rattle.spg_whole.specs.declared.refused.InsertRefused.{InsertRefused}
use Rattle.spg_whole.specs.declared.refused.InsertRefused.TheVariants as insert
use Rattle.spg_whole.specs.Calls.{Inserts, KeepsOut, Deletes, FindsRows, FindsNone, Vacuums, VacuumsNot}
use Rattle.spg_c.specs.declared.refused.Refused.{Refused}
use Rattle.spg_c.specs.declared.refused.Refused.TheVariants as refused

-- how C is told why a row was kept out
abbrev pub kept_out_as : InsertRefused → Refused
kept_out_as insert.RowUsed = refused.Used
kept_out_as insert.IndexFull = refused.Full
kept_out_as insert.ClockFull = refused.Clock
kept_out_as insert.Memory = refused.Memory

module _ {O Key Recon Cond : Type 0} where
  -- an insert was done, or was refused for a cause that C is told
  abbrev pub TellsInsert : Meaning Key Recon Cond → Seen O Key Recon Cond → Seen O Key Recon Cond → RowAt → Option Key → Result (Unit {0}) Refused → Type 0
  TellsInsert m old new row key (Ok x) = Inserts old new 0 row key
  TellsInsert m old new row key (Err e) = (why : InsertRefused) × (e ≡ kept_out_as why) × KeepsOut m old new 0 row key why

  -- a row was deleted, or was not live, and then, or for want of memory, nothing was done
  abbrev pub TellsDelete : Seen O Key Recon Cond → Seen O Key Recon Cond → RowAt → Result (Unit {0}) Refused → Type 0
  TellsDelete old new row (Ok x) = Deletes old new 0 row true
  TellsDelete old new row (Err e) = ((e ≡ refused.Absent) × Deletes old new 0 row false) ⊎ ((e ≡ refused.Memory) × (new ≡ old))

  -- rows were found, or there was want of memory
  abbrev pub TellsFind : Meaning Key Recon Cond → Seen O Key Recon Cond → Seen O Key Recon Cond → Query O Key Recon Cond → Result (List RowAt) Refused → Type 0
  TellsFind m old new query (Ok rows) = FindsRows m old new 0 query rows
  TellsFind m old new query (Err e) = (e ≡ refused.Memory) × FindsNone old new 0 query

  -- a vacuum swept so many rows, or there was want of memory
  abbrev pub TellsVacuum : Seen O Key Recon Cond → Seen O Key Recon Cond → Result ℕ Refused → Type 0
  TellsVacuum old new (Ok swept) = Vacuums old new 0 swept
  TellsVacuum old new (Err e) = (e ≡ refused.Memory) × VacuumsNot old new 0

module _ {O Recon Cond : Type 0} where
  -- the rows nearest to a point, or there was want of memory
  abbrev pub TellsNear : Seen O Point Recon Cond → Point → ℕ → Result (List NearRow) Refused → Type 0
  TellsNear seen target limit (Ok rows) = AreNearest (past_of seen) target limit rows
  TellsNear seen target limit (Err e) = e ≡ refused.Memory
