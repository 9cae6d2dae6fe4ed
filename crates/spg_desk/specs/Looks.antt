-- What a call answers that looks at the index in one turn, and does nothing.
use Rattle.std.specs.Prelude.{◌≡◌, ℕ, List, [], length, reverse}
use Rattle.spg_base.specs.Row.{RowAt}
use Rattle.spg_base.specs.declared.recorded.Origin.{Origin}
use Rattle.spg_base.specs.declared.recorded.Stat.{Stat}
use Rattle.spg_opclass.specs.Meaning.{Meaning}
use Rattle.spg_forest.specs.Shape.{Represents}
use Rattle.spg_tree.specs.Table.{Table, AreRoots, sheets_of}
use Rattle.spg_rows.specs.declared.event.Event.{Event}
use Rattle.spg_rows.specs.History.{History}
use Rattle.spg_rows.specs.Present.{IsPresentWith}
use Rattle.spg_rows.specs.Rows.{held_by}
use Rattle.spg_seats.specs.Slots.{kept_key}
use Rattle.spg_bounds.specs.Bounds.{AreBounded}
use Rattle.spg_turn.specs.declared.rule.View.{View}
use Rattle.spg_core.specs.Counts.{IsStat}
use Rattle.spg_calls.specs.Calls.{span_at}
use Rattle.spg_copy.specs.Copies.{unlatched}
use Rattle.spg_desk.specs.declared.looked.StatAnswer.{StatAnswer}
use Rattle.spg_desk.specs.declared.looked.HeldAnswer.{HeldAnswer}
use Rattle.spg_desk.specs.declared.looked.KeyAnswer.{KeyAnswer}
use Rattle.spg_desk.specs.declared.looked.KeyAnswer.TheVariants as keys
use Rattle.spg_desk.specs.declared.looked.PagesAnswer.{PagesAnswer}
use Rattle.spg_desk.specs.declared.looked.PagesAnswer.TheVariants.{Copied, Memory}
use Rattle.spg_desk.specs.Told.{Told}

-- Pages that an index of this origin may have after these events: they hold just the rows that are present, each with its key, and are no more than the inserts that were opened made
pub record MayStand {O Key Recon Cond : Type 0} (m : Meaning Key Recon Cond) (origin : Origin) (past : History O Key Recon Cond) (t : Table) : Type 0 where
  pub holds : Represents m (sheets_of t) (IsPresentWith past)
  pub bounds : AreBounded origin t past
  pub limit : t.limit ≡ origin.limit

-- the same pages, with nothing latched, and with their roots
pub record IsCopyOf {O Key Recon Cond : Type 0} (m : Meaning Key Recon Cond) (origin : Origin) (past : History O Key Recon Cond) (t : Table) : Type 0 where
  pub stands : MayStand m origin past t
  pub roots : AreRoots t.pages
  pub free : t ≡ unlatched t

-- the counts of such pages
abbrev pub IsStatOf : {O Key Recon Cond : Type 0} → Meaning Key Recon Cond → Origin → History O Key Recon Cond → Stat → Type 0
IsStatOf m origin past stat = (t : Table) × MayStand m origin past t × IsStat t stat

module _ {O Key Recon Cond : Type 0} (m : Meaning Key Recon Cond) (v w : View (Event O Key Recon Cond)) where
  -- nothing was done, and the pass has then seen a journal of this length
  pub record LooksAt (at : ℕ) : Type 0 where
    pub told : Told m v w (span_at at at) []
    pub length_is : at ≡ length w.seen

  abbrev pub DidStat : StatAnswer → Type 0
  DidStat a = LooksAt a.at × IsStatOf m v.origin (reverse w.seen) a.stat

  abbrev pub DidAskHeld : RowAt → HeldAnswer → Type 0
  DidAskHeld row a = LooksAt a.at × (a.by ≡ held_by row (reverse w.seen))

  -- nothing was done, and this is the key of the row's last life by the journal seen; none where the row had no life, or its last was dropped
  abbrev pub DidAskKey : RowAt → KeyAnswer Key → Type 0
  DidAskKey row (keys.Copied key at) = LooksAt at × (key ≡ kept_key row (reverse w.seen))
  DidAskKey row (keys.Memory at) = LooksAt at

  abbrev pub DidCopy : PagesAnswer → Type 0
  DidCopy (Copied pages at) = LooksAt at × IsCopyOf m v.origin (reverse w.seen) pages
  DidCopy (Memory at) = LooksAt at
