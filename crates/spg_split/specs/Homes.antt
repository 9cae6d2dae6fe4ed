-- The pages to which the tuples of a division below a root go.
use Rattle.std.specs.Prelude.{◌≡◌, ℕ, ◌+◌, ◌-◌, ◌%◌, ◌&&◌, nat_le, Bool, true, false, List, [], ◌∷◌, ◌++◌, Some, None}
use Rattle.std.specs.List.{range_with_len}
use Rattle.spg_page.specs.Changes.{room_of}
use Rattle.spg_page.specs.declared.tuple.PageKind.TheVariants as kinds
use Rattle.spg_tree.specs.Table.{Table, sheet_at, tuples_at}
use Rattle.spg_tree.specs.Pick.{Picks}
use Rattle.spg_tree.specs.Picked.{IsPicked, want_of}
use Rattle.spg_tree.specs.Two.{PicksTwo, IsPickedTwo}
use Rattle.spg_tree.specs.declared.want.Want.{Want}
use Rattle.spg_split.specs.declared.plan.ListSize.{ListSize}
use Rattle.spg_split.specs.declared.homes.Homes.{Homes}
use Rattle.spg_tree.specs.Another.{another}

-- the pick of an inner page for an inner tuple below one on block p, and of a leaf page for lists that leave block b
abbrev pub inner_want : Bool → ℕ → ℕ → ℕ → Want
inner_want nulls p need seat = want_of kinds.Inner nulls (Some ((p % 3 + 1) % 3)) need 1 None seat

abbrev pub rest_want : Bool → ℕ → ListSize → ℕ → Want
rest_want nulls b size seat = want_of kinds.Leaf nulls None size.bytes size.tuples (Some b) seat

-- whether the inner tuple goes on the page of that above it
abbrev pub fits_above : Table → ℕ → ℕ → Bool
fits_above t p need = nat_le 3 p && nat_le need (room_of (tuples_at t p) 1)

-- it goes there or to a page that is picked, and so do the lists where some go away
abbrev pub AreHomes : Bool → Bool → Table → Table → ℕ → ℕ → Want → Want → Homes → Type 0
AreHomes true false t t2 b p w v h = (h.inner ≡ p) × (h.rest ≡ b) × (t2 ≡ t)
AreHomes true true t t2 b p w v h = (h.inner ≡ p) × Picks t v h.rest t2 × IsPicked t v h.rest t2
AreHomes false false t t2 b p w v h = (h.rest ≡ b) × Picks t w h.inner t2 × IsPicked t w h.inner t2
AreHomes false true t t2 b p w v h = PicksTwo t w v h.inner h.rest t2 × IsPickedTwo t w v h.inner h.rest t2

abbrev pub PicksHomes : Table → Table → ℕ → ℕ → ℕ → ListSize → ℕ → Homes → Type 0
PicksHomes t t2 b p need rest seat h =
    let nulls : Bool = (sheet_at t b).nulls in
    AreHomes (fits_above t p need) (nat_le 1 rest.tuples) t t2 b p (inner_want nulls p need seat) (rest_want nulls b rest seat) h

-- the blocks that are changed or added, each once
abbrev pub blocks_touched : ℕ → ℕ → Homes → ℕ → ℕ → List ℕ
blocks_touched b p h before now = ((b ∷ p ∷ []) ++ another h.inner p before) ++ another h.rest b before ++ range_with_len before (now - before)
