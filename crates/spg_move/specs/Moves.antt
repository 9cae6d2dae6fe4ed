-- What the move of a chain does.
use Rattle.std.specs.Prelude.{ℕ, Option}
use Rattle.spg_opclass.specs.Meaning.{Meaning}
use Rattle.spg_forest.specs.View.{Place}
use Rattle.spg_forest.specs.Pages.{moved}
use Rattle.spg_forest.specs.Section.{Adds, Cost}
use Rattle.spg_tree.specs.Table.{Table, sheets_of, tuples_at}
use Rattle.spg_tree.specs.Descents.{Descending, in_nulls}
use Rattle.spg_tree.specs.declared.want.Want.{Want}
use Rattle.spg_descend.specs.Carried.{carried, IsCarried}
use Rattle.spg_descend.specs.Follows.{tuple_place}
use Rattle.spg_move.specs.Moving.{chain_want, chain_leaves, with_new}

-- at most one page, one tick, and 1 more spread
abbrev pub move_cost : Cost
move_cost = record { pages = 1; ticks = 1; spread = 1 }

-- the row is put with the key that the insert carries, and the chain at which it stands has gone elsewhere
abbrev pub MovesCarried : {Key Recon Cond : Type 0} → Meaning Key Recon Cond → Table → Table → Descending Recon → Type 0
MovesCarried {Key} m t t2 d = (key : Option Key) → IsCarried m (sheets_of t) d key → (y : Place) × Adds m (sheets_of t) (sheets_of t2) t2.touched move_cost d.row key (moved (tuple_place d.stand) y)

-- the pick of a page for the chain at which the insert stands, with its leaf
abbrev pub carried_want : {Recon : Type 0} → Table → Descending Recon → ℕ → Want
carried_want t d seat =
    let x : Place = tuple_place d.stand in
    chain_want (in_nulls d) (with_new (chain_leaves (tuples_at t x.block) x.offset) (carried d)) x.block seat
