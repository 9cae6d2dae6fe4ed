-- What a call of the desk tells of the journal.
use Rattle.std.specs.Prelude.{◌≡◌, ◌++◌, List, length, drop}
use Rattle.spg_base.specs.declared.names.Span.{Span}
use Rattle.spg_opclass.specs.Meaning.{Meaning}
use Rattle.spg_rows.specs.declared.event.Event.{Event}
use Rattle.spg_rows.specs.Right.{Right}
use Rattle.spg_turn.specs.declared.rule.View.{View}
use Rattle.spg_calls.specs.Calls.{Called}
use Rattle.spg_desk.specs.Knowing.{own_since}

-- The call did these events of its seat, none of which stands before what its pass had seen, and no others. Its span ends at the first and the last. Since the lock was made the seat has done just what its pass added, and the journal that was seen is right
pub record Told {O Key Recon Cond : Type 0} (m : Meaning Key Recon Cond) (v w : View (Event O Key Recon Cond)) (span : Span) (events : List (Event O Key Recon Cond)) : Type 0 where
  pub same : w ≡ record v { seen = w.seen; mine = v.mine ++ events }
  pub called : Called v.number v.seen w.seen span events
  pub whole : own_since w ≡ w.mine
  pub right : Right m w.seen
