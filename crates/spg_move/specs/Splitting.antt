-- An inner tuple that becomes an upper and a lower one: where the lower one goes, and the table then.
use Rattle.std.specs.Prelude.{◌≡◌, ℕ, ◌+◌, ◌-◌, ◌%◌, ◌≤◌, ◌<◌, ◌&&◌, nat_le, Bool, true, false, List, [], ◌∷◌, ◌++◌, Some, None, length}
use Rattle.std.specs.List.{range_with_len}
use Rattle.spg_forest.specs.View.{Place}
use Rattle.spg_forest.specs.Tuples.{Tuple, Inner}
use Rattle.spg_forest.specs.Pages.{with_tuple}
use Rattle.spg_forest.specs.Sheets.{weight, size_of, links}
use Rattle.spg_page.specs.Changes.{room_of}
use Rattle.spg_page.specs.Kinds.{IsOffset, IsInner}
use Rattle.spg_page.specs.Reads.{frame_in}
use Rattle.spg_page.specs.declared.tuple.PageKind.TheVariants as kinds
use Rattle.spg_tree.specs.Table.{Table, sheet_at, tuples_at, tuple_at, with_tuples_at, with_link, with_touched}
use Rattle.spg_tree.specs.Pick.{Picks}
use Rattle.spg_tree.specs.Picked.{IsPicked, want_of}
use Rattle.spg_tree.specs.declared.want.Want.{Want}
use Rattle.spg_tree.specs.Another.{another}
use Rattle.spg_descend.specs.BareNodes.{bare}
use Rattle.spg_tree.specs.Writes.{new_place, added_table}

-- the upper tuple stands in the place of the old one
abbrev pub upper_table : Table → Place → Tuple → Table
upper_table t x up = with_tuples_at t x.block (with_tuple (tuples_at t x.block) x.offset up)

-- whether the lower tuple fits beside the upper one, on a page that is no root
abbrev pub fits_beside : Table → Place → Tuple → Tuple → Bool
fits_beside t x up low = nat_le 3 x.block && nat_le (size_of low + 4) (room_of (tuples_at (upper_table t x up) x.block) 1)

-- the pick of an inner page for a tuple below one on this block
abbrev pub lower_want : Bool → ℕ → Tuple → ℕ → Want
lower_want nulls b low seat = want_of kinds.Inner nulls (Some ((b % 3 + 1) % 3)) (size_of low + 4) 1 None seat

-- the lower tuple goes beside the upper one, or on a page that is picked
abbrev pub IsHome : Bool → Table → Table → Place → Tuple → ℕ → ℕ → Type 0
IsHome true t t1 x low h seat = (h ≡ x.block) × (t1 ≡ t)
IsHome false t t1 x low h seat = let w : Want = lower_want (sheet_at t x.block).nulls x.block low seat in Picks t w h t1 × IsPicked t w h t1

abbrev pub GoesTo : Table → Table → Place → Tuple → Tuple → ℕ → ℕ → Type 0
GoesTo t t1 x up low h seat = IsHome (fits_beside t x up low) t t1 x low h seat

-- the lower tuple stands on block h, and node c of the upper one leads to it
abbrev pub parted_table : Table → Place → ℕ → ℕ → Tuple → Tuple → Table
parted_table t x c h up low = let t1 : Table = upper_table t x up in with_link (added_table t1 h low) x c (Some (new_place t1 h))

-- the blocks that are changed or added, each once
abbrev pub split_touched : ℕ → ℕ → ℕ → ℕ → List ℕ
split_touched b h before now = (b ∷ []) ++ another h b before ++ range_with_len before (now - before)

-- the upper tuple leads nowhere, and is no longer than the inner tuple at x
pub record MayPart (t : Table) (x : Place) (up : Tuple) : Type 0 where
  pub block : (0 < x.block) × (x.block < length t.pages)
  pub within : IsOffset (tuples_at t x.block) x.offset
  pub inner : IsInner (tuple_at t x)
  pub empty : up ≡ Inner (frame_in up) (bare (length (links up)))
  pub shorter : size_of up ≤ size_of (tuple_at t x)
  pub fits : weight (tuples_at t x.block) ≤ 8160

-- the lower tuple has a home, and all is written
pub record IsParted (t t2 : Table) (x : Place) (c seat : ℕ) (up low : Tuple) : Type 0 where
  pub home : ℕ
  pub housed : Table
  pub goes : GoesTo t housed x up low home seat
  pub after : t2 ≡ with_touched (parted_table housed x c home up low) (split_touched x.block home (length t.pages) (length housed.pages))
