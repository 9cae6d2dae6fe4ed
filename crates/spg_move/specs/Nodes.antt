-- What a node put into an inner tuple does.
use Rattle.std.specs.Prelude.{◌≡◌, ◌%◌, ℕ, ℤ, ◌⊎◌, Option, None}
use Rattle.spg_opclass.specs.Meaning.{Meaning, longer}
use Rattle.spg_forest.specs.View.{Place}
use Rattle.spg_forest.specs.Pages.{moved}
use Rattle.spg_forest.specs.Tuples.{Tuple}
use Rattle.spg_forest.specs.Sheets.{size_of}
use Rattle.spg_forest.specs.Section.{Leaves, Cost}
use Rattle.spg_page.specs.Reads.{frame_in}
use Rattle.spg_tree.specs.Table.{Table, sheets_of, tuples_at, tuple_at}
use Rattle.spg_tree.specs.declared.want.Want.{Want}
use Rattle.spg_tree.specs.Descents.{Descending, in_nulls, placed, with_node}
use Rattle.spg_tree.specs.declared.stand.Stand.TheVariants.{At}
use Rattle.spg_descend.specs.Below.{IsTicked, IsLedTo}
use Rattle.spg_descend.specs.Carried.{IsCarried}
use Rattle.spg_descend.specs.Follows.{IsAtInner, tuple_place, link_of}
use Rattle.spg_descend.specs.Makes.{MakesNone, MakesOne}
use Rattle.spg_descend.specs.Puts.{IsQuiet}
use Rattle.spg_move.specs.Answers.{IsInnerOf}
use Rattle.spg_move.specs.Widening.{widened, node_want}
use Rattle.spg_tree.specs.Writes.{FitsInPlace}

-- at most three pages, one tick, and no more spread
abbrev pub node_cost : Cost
node_cost = record { pages = 3; ticks = 1; spread = 0 }

-- the tuple at which the insert stands, with one node more
abbrev pub wider : {Recon : Type 0} → Table → Descending Recon → ℕ → ℤ → Tuple
wider t d at label = widened (tuple_at t (tuple_place d.stand)) at label

-- it fits in its place
abbrev pub FitsWider : {Recon : Type 0} → Table → Descending Recon → ℕ → ℤ → Type 0
FitsWider t d at label = FitsInPlace (tuples_at t (tuple_place d.stand).block) (tuple_place d.stand).offset (wider t d at label)

-- the pick of a page for it
abbrev pub wider_want : {Recon : Type 0} → Table → Descending Recon → ℕ → ℤ → ℕ → Want
wider_want t d at label seat = node_want (in_nulls d) (tuple_place d.stand).block (size_of (wider t d at label)) seat

-- the entries stay as they are; at the longer tuple the insert carries what it carried, and f tells where each spot has gone
pub record Widens {Key Recon Cond : Type 0} (m : Meaning Key Recon Cond) (t t2 : Table) (d d2 : Descending Recon) (at : ℕ) (label : ℤ) (f : Place → Place) : Type 0 where
  pub leaves : Leaves m (sheets_of t) (sheets_of t2) t2.touched node_cost 0 f
  pub inner : IsAtInner t2 d2.stand
  pub frame : frame_in (tuple_at t2 (tuple_place d2.stand)) ≡ longer (frame_in (tuple_at t (tuple_place d.stand))) at label
  pub nowhere : link_of t2 (tuple_place d2.stand) at ≡ None
  pub carries : (key : Option Key) → IsCarried m (sheets_of t) d key → IsCarried m (sheets_of t2) d2 key

-- the node is added in place; or the longer tuple, which does not fit there, has gone to y on a block of the same parity, and the node of the tuple above leads there
abbrev pub IsNodeAdded : {Key Recon Cond : Type 0} → Meaning Key Recon Cond → Table → Table → Descending Recon → Descending Recon → ℕ → ℤ → Type 0
IsNodeAdded m t t2 d d2 at label =
    ((d2 ≡ with_node d) × IsQuiet t t2 × MakesNone t t2 × IsInnerOf t2 (in_nulls d) d2.stand d2.parent × Widens m t t2 d d2 at label (λ x. x))
    ⊎ ((FitsWider t d at label → ⊥) × (y : Place) × (d2 ≡ with_node (placed d (At y) d.parent)) × IsTicked t t2 × MakesOne t t2 y × (y.block % 3 ≡ (tuple_place d.stand).block % 3) × IsLedTo t2 d.parent y × Widens m t t2 d d2 at label (moved (tuple_place d.stand) y))
