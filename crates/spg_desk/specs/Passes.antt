-- What a clause reads of a desk and of a pass.
use Rattle.std.specs.Prelude.{ℕ}
use Rattle.atomic_table.specs.Seated.{TableId}
use Rattle.spg_opclass.specs.declared.class.OpClass.{Ghosts}
use Rattle.spg_rows.specs.declared.event.Event.{Event}
use Rattle.spg_turn.specs.declared.rule.View.{View}
use Rattle.spg_turn.specs.Passes.{turn_id, turn_seats, pass_turn, pass_view}
use Rattle.spg_desk.specs.declared.desk.Desk.{Desk}
use Rattle.spg_desk.specs.declared.pass.Pass.{Pass}

module _ {O Key Recon Cond : Type 0} where
  -- which desk it is
  abbrev pub desk_id : Desk O Key Recon Cond → TableId
  desk_id d = turn_id d.turn

  -- the class of its index
  abbrev pub desk_class : Desk O Key Recon Cond → O
  desk_class d = d.class

  -- how many passes it may give
  abbrev pub desk_seats : Desk O Key Recon Cond → ℕ
  desk_seats d = turn_seats d.turn

module _ {O Key Recon Cond : Type 0} {laws : Ghosts O Key Recon Cond} where
  -- the desk that a pass belongs to
  abbrev pub desk_of : Pass O Key Recon Cond laws → TableId
  desk_of p = pass_turn p.going.pass

  -- what a pass knows
  abbrev pub view_of : Pass O Key Recon Cond laws → View (Event O Key Recon Cond)
  view_of p = pass_view p.going.pass
