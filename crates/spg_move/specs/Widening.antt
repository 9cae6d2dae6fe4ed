-- An inner tuple with one more node, and the tables in which it stands.
use Rattle.std.specs.Prelude.{◌≡◌, ℕ, ℤ, ◌+◌, ◌-◌, ◌%◌, ◌<◌, ◌≤◌, Bool, List, [], ◌∷◌, ◌++◌, length, insert, Option, Some, None}
use Rattle.std.specs.List.{range_with_len}
use Rattle.spg_opclass.specs.Meaning.{longer}
use Rattle.spg_forest.specs.View.{Place}
use Rattle.spg_forest.specs.Tuples.{Tuple, Inner, Redirect}
use Rattle.spg_forest.specs.Sheets.{size_of, links}
use Rattle.spg_page.specs.Kinds.{IsOffset}
use Rattle.spg_page.specs.Reads.{frame_in}
use Rattle.spg_page.specs.declared.tuple.PageKind.TheVariants as kinds
use Rattle.spg_tree.specs.Table.{Table, tuples_at, tuple_at, with_link, with_clock, with_touched}
use Rattle.spg_tree.specs.Descents.{Descending, in_nulls}
use Rattle.spg_tree.specs.Pick.{Picks}
use Rattle.spg_tree.specs.Picked.{IsPicked, want_of}
use Rattle.spg_tree.specs.declared.stand.Stand.{Stand}
use Rattle.spg_tree.specs.declared.stand.Stand.TheVariants.{At}
use Rattle.spg_tree.specs.declared.want.Want.{Want}
use Rattle.spg_tree.specs.Another.{another}
use Rattle.spg_tree.specs.Writes.{new_place, added_table, put_table}

-- an inner tuple with one more node, which leads nowhere
abbrev pub widened : Tuple → ℕ → ℤ → Tuple
widened u at label = Inner (longer (frame_in u) at label) (insert (links u) at None)

abbrev pub widened_table : Table → Place → Tuple → Table
widened_table t x u = with_touched (put_table t x u) (x.block ∷ [])

-- the table once the tuple at x has gone to block b as u, where a redirect stays, and node i of the tuple at p leads to it
abbrev pub left_table : Table → ℕ → Place → Tuple → Table
left_table t b x u = put_table (added_table t b u) x (Redirect (new_place t b) t.clock)

abbrev pub shifted_table : Table → ℕ → Place → Place → ℕ → Tuple → Table
shifted_table t b x p i u = with_clock (with_link (left_table t b x u) p i (Some (new_place t b))) (t.clock + 1)

-- the blocks that are changed or added, each once
abbrev pub blocks_shifted : ℕ → ℕ → ℕ → ℕ → ℕ → List ℕ
blocks_shifted old above picked before now = ((old ∷ []) ++ another above old before) ++ another picked above before ++ range_with_len before (now - before)

-- the pick of an inner page for a tuple of this size that leaves a block
abbrev pub node_want : Bool → ℕ → ℕ → ℕ → Want
node_want nulls block size seat = want_of kinds.Inner nulls (Some (block % 3)) (size + 4) 1 (Some block) seat

-- node i of the tuple at p leads to another tuple at x
pub record IsHung (t : Table) (x p : Place) (i : ℕ) : Type 0 where
  pub here : (0 < x.block) × (x.block < length t.pages)
  pub within : IsOffset (tuples_at t x.block) x.offset
  pub size : 16 ≤ size_of (tuple_at t x)
  pub above : (0 < p.block) × (p.block < length t.pages)
  pub above_within : IsOffset (tuples_at t p.block) p.offset
  pub apart : p ≡ x → ⊥
  pub node : i < length (links (tuple_at t p))

-- a page is picked, and the tuple goes there
pub record IsShifted (t t2 : Table) (nulls : Bool) (x p : Place) (i : ℕ) (u : Tuple) (seat : ℕ) (to : Place) : Type 0 where
  pub picked : Table
  pub block : ℕ
  pub picks : Picks t (node_want nulls x.block (size_of u) seat) block picked
  pub is_picked : IsPicked t (node_want nulls x.block (size_of u) seat) block picked
  pub at : to ≡ new_place picked block
  pub after : t2 ≡ with_touched (shifted_table picked block x p i u) (blocks_shifted x.block p.block block (length t.pages) (length picked.pages))

-- the tuple at which an insert stands goes there
abbrev pub IsShiftedAt : {Recon : Type 0} → Table → Table → Descending Recon → Stand → Option (Place × ℕ) → Tuple → ℕ → Place → Type 0
IsShiftedAt t t2 d (At x) (Some (p, i)) u seat to = IsShifted t t2 (in_nulls d) x p i u seat to
IsShiftedAt t t2 d stand parent u seat to = ⊥

abbrev pub IsShiftedFrom : {Recon : Type 0} → Table → Table → Descending Recon → Tuple → ℕ → Place → Type 0
IsShiftedFrom t t2 d u seat to = IsShiftedAt t t2 d d.stand d.parent u seat to
