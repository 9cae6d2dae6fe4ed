-- What a clause reads of a lock, a pass and a holder.
use Rattle.std.specs.Prelude.{ℕ}
use Rattle.atomic_table.specs.Seated.{TableId}
use Rattle.spg_turn.specs.declared.rule.View.{View}
use Rattle.spg_turn.specs.declared.turn.Turn.{Turn}
use Rattle.spg_turn.specs.declared.pass.Pass.{Pass}
use Rattle.spg_turn.specs.declared.pass.Held.{Held}
use Rattle.spg_turn.specs.Views.{settled}

module _ {S E : Type 0} where
  -- which lock it is
  abbrev pub turn_id : Turn S E → TableId
  turn_id t = t.table.shared.table_id

  -- how many passes it may give
  abbrev pub turn_seats : Turn S E → ℕ
  turn_seats t = t.seats

module _ {S E : Type 0} where
  -- the lock that a pass belongs to
  abbrev pub pass_turn : Pass S E → TableId
  pass_turn p = p.seat.table_id

  -- what a pass knows
  abbrev pub pass_view : Pass S E → View E
  pass_view p = p.seat.me.0

  -- the lock that a holder belongs to
  abbrev pub held_turn : Held S E → TableId
  held_turn h = h.seat.table_id

  -- what a holder knows: its seen list is the journal as it was when the state was lent
  abbrev pub held_view : Held S E → View E
  held_view h = settled h.seat.me.0

  -- the state that a holder has
  abbrev pub held_state : Held S E → S
  held_state h = h.state

  -- the holder with another state
  abbrev pub with_state : Held S E → S → Held S E
  with_state h s = record h { state = s }
