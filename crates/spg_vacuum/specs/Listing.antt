-- The places that a vacuum has still to see.
use Rattle.std.specs.Prelude.{List, [], ◌∷◌, ◌++◌, Option, Some, None}
use Rattle.std.specs.Ordering.{nat_cmp, ordering_then}
use Rattle.std.specs.declared.cmp.Ordering.{Ordering}
use Rattle.spg_forest.specs.View.{Place}
use Rattle.spg_cover.specs.Vacuum.{listed, settled}

-- those that are done, and those to do, each in the order in which they were listed
pub record Listing : Type 0 where
  pub done : List Place
  pub todo : List Place

-- places go by block, then offset
abbrev pub place_cmp : Place → Place → Ordering
place_cmp x y = ordering_then (nat_cmp x.block y.block) (nat_cmp x.offset y.offset)

-- the first place to do
abbrev pub first_place : List Place → Option Place
first_place [] = None
first_place (p ∷ ps) = Some p

abbrev pub none_listed : Listing
none_listed = record { done = []; todo = [] }

-- the places ys put behind those to do, each unless it is listed already
abbrev pub with_listed : Listing → List Place → Listing
with_listed l ys = record { done = l.done; todo = listed l.done l.todo ys }

-- the first place to do is done, and the list is emptied once nothing is to do
abbrev pub first_done : List Place → List Place → Listing
first_done done [] = record { done = done; todo = [] }
first_done done (p ∷ ps) = record { done = settled (done ++ p ∷ []) ps; todo = ps }
