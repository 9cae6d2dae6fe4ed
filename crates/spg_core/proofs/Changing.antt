-- What a section of an insert does to the pages.
use Rattle.std.proofs.Common.{◌≡◌, ℕ, List, Option, inl, inr, subst}
use Rattle.spg_opclass.specs.Meaning.{Meaning}
use Rattle.spg_tree.specs.Table as pages
use Rattle.spg_tree.specs.Table.{sheets_of}
use Rattle.spg_tree.specs.Descents.{Descending}
use Rattle.spg_scan.specs.Others.{ChangesPages}
use Rattle.spg_seats.specs.Descending.{IsInsertOf}
use Rattle.spg_seats.specs.Slots.{StageFits}
use Rattle.spg_core.specs.declared.answer.InsertOut.{InsertOut}
use Rattle.spg_core.specs.declared.answer.InsertOut.TheVariants as outs
use Rattle.spg_core.specs.declared.slot.Slot.{Slot}
use Rattle.spg_core.specs.declared.slot.Slot.TheVariants.{Free, Insert, Scan, Vacuum}
use Rattle.spg_core.specs.declared.kept.Kept.TheInside.{Inside}
use Rattle.spg_core.specs.Stepping.{IsStepOut}
use Rattle.spg_core.specs.Operations.{StepsFrom}
use Rattle.spg_core.specs.Slot.{stage_of}
use Rattle.spg_core.specs.Seen.{Seen, past_of}
use Rattle.spg_core.specs.Kept.{seen_of}

module _ {O Key Recon Cond : Type 0} (m : Meaning Key Recon Cond) (s : Inside O Key Recon Cond) (seat : ℕ) where
  by_insert : (out : InsertOut) (t2 : pages.Table) (key : Option Key) (d d2 : Descending Recon) → IsInsertOf m s.table (past_of (seen_of s)) seat key d → IsStepOut m s.table t2 d d2 seat out → ChangesPages m (past_of (seen_of s)) seat (sheets_of s.table) (sheets_of t2) t2.touched 0
  by_insert outs.Descended t2 key d d2 fit (stood, same, more) = inr (inr (inr same.0))
  by_insert outs.Restructured t2 key d d2 fit (off, (cost, f, L), limit, grow, on) = inr (inl (cost, f, L))
  by_insert (outs.Restarted block by) t2 key d d2 fit (latched, other, start, same, more) = inr (inr (inr same.0))
  by_insert outs.Put t2 key d d2 fit (off, adds, limit, grow, row) = let (cost, f, A) = adds key fit.1 in inl (cost, f, d.row, key, key, fit.0, A)

  by_slot : (out : InsertOut) (slot : Slot O Key Recon Cond) (t2 : pages.Table) (slots : List (Slot O Key Recon Cond)) → StageFits m s.table (past_of (seen_of s)) seat (stage_of slot) → StepsFrom m s.table t2 s.slots.items slots seat out slot →
      ChangesPages m (past_of (seen_of s)) seat (sheets_of s.table) (sheets_of t2) t2.touched 0
  by_slot out Free t2 slots fit h = absurd h
  by_slot out (Insert key d) t2 slots fit (d2, items, S) = by_insert out t2 key d d2 fit S.ok
  by_slot out (Scan x) t2 slots fit h = absurd h
  by_slot out (Vacuum x) t2 slots fit h = absurd h

  pub changes_step : (seen : Seen O Key Recon Cond) → seen_of s ≡ seen → (out : InsertOut) (slot : Slot O Key Recon Cond) (t2 : pages.Table) (slots : List (Slot O Key Recon Cond)) → StageFits m s.table (past_of (seen_of s)) seat (stage_of slot) → StepsFrom m s.table t2 s.slots.items slots seat out slot →
      ChangesPages m (past_of seen) seat (sheets_of seen.table) (sheets_of t2) t2.touched 0
  changes_step seen view out slot t2 slots fit h = subst (λ (v : Seen O Key Recon Cond). ChangesPages m (past_of v) seat (sheets_of v.table) (sheets_of t2) t2.touched 0) view (by_slot out slot t2 slots fit h)
