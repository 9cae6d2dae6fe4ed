-- What the split of an inner tuple does.
use Rattle.std.specs.Prelude.{◌≡◌, ℕ, ℤ, Bool, List, length, Option, Some, None}
use Rattle.spg_opclass.specs.Meaning.{Meaning, upper, lower}
use Rattle.spg_forest.specs.View.{Place}
use Rattle.spg_forest.specs.Tuples.{Tuple, Inner}
use Rattle.spg_forest.specs.Sheets.{links}
use Rattle.spg_forest.specs.Section.{Leaves, Cost}
use Rattle.spg_page.specs.Reads.{frame_in}
use Rattle.spg_tree.specs.Table.{Table, sheets_of, tuple_at}
use Rattle.spg_tree.specs.Descents.{Descending, in_nulls, risen}
use Rattle.spg_tree.specs.declared.want.Want.{Want}
use Rattle.spg_descend.specs.Carried.{IsCarried}
use Rattle.spg_descend.specs.Follows.{IsAtInner, tuple_place, link_of}
use Rattle.spg_descend.specs.Makes.{MakesOne, IsNextTo}
use Rattle.spg_descend.specs.Puts.{IsQuiet}
use Rattle.spg_descend.specs.BareNodes.{bare}
use Rattle.spg_move.specs.Answers.{IsInnerOf}
use Rattle.spg_move.specs.Splitting.{lower_want, fits_beside}

-- at most three pages, no tick, and 1 more spread
abbrev pub split_cost : Cost
split_cost = record { pages = 3; ticks = 0; spread = 1 }

-- the entries stay as they are; at the upper tuple the insert carries what it carried
pub record PartsTuple {Key Recon Cond : Type 0} (m : Meaning Key Recon Cond) (t t2 : Table) (d d2 : Descending Recon) (up : List ℕ) (labels : List ℤ) (child : ℕ) : Type 0 where
  pub after : d2 ≡ risen d
  pub quiet : IsQuiet t t2
  pub leaves : Leaves m (sheets_of t) (sheets_of t2) t2.touched split_cost 0 (λ x. x)
  pub inner : IsAtInner t2 d2.stand
  pub frame : frame_in (tuple_at t2 (tuple_place d2.stand)) ≡ upper up labels
  -- the one inner tuple that is made, the lower one, is that to which the child's node leads; the other nodes lead nowhere
  pub lower : (z : Place) × (link_of t2 (tuple_place d2.stand) child ≡ Some z) × MakesOne t t2 z × IsNextTo (tuple_place d.stand).block z
  pub others : (i : ℕ) → (i ≡ child → ⊥) → link_of t2 (tuple_place d2.stand) i ≡ None
  pub link : IsInnerOf t2 (in_nulls d) d2.stand d2.parent
  pub carries : (key : Option Key) → IsCarried m (sheets_of t) d key → IsCarried m (sheets_of t2) d2 key

-- the upper tuple, whose nodes lead nowhere
abbrev pub upper_at : List ℕ → List ℤ → Tuple
upper_at pre labels = Inner (upper pre labels) (bare (length labels))

-- the lower tuple, and the pick of a page for it
abbrev pub lower_at : {Recon : Type 0} → Table → Descending Recon → List ℕ → Tuple
lower_at t d low = let u : Tuple = tuple_at t (tuple_place d.stand) in Inner (lower (frame_in u) low) (links u)

abbrev pub lower_want_at : {Recon : Type 0} → Table → Descending Recon → List ℕ → ℕ → Want
lower_want_at t d low seat = lower_want (in_nulls d) (tuple_place d.stand).block (lower_at t d low) seat

-- whether the lower tuple fits beside the upper one, on a page that is no root
abbrev pub fits_beside_at : {Recon : Type 0} → Table → Descending Recon → List ℕ → List ℤ → List ℕ → Bool
fits_beside_at t d pre labels low = fits_beside t (tuple_place d.stand) (upper_at pre labels) (lower_at t d low)
