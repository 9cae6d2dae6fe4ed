-- The table while an inner tuple is split.
use Rattle.std.proofs.Common.{◌≡◌, ℕ, suc, ◌+◌, ◌-◌, ◌≤◌, ◌<◌, List, length, length-set, refl, sym, ap, ap₂, ◌∙◌, subst, arith}
use Rattle.std.specs.Prelude.{nat_le, ◌&&◌}
use Rattle.std.proofs.lemmas.Bool.{le-leb}
use Rattle.spg_forest.specs.View.{Place}
use Rattle.spg_forest.specs.Tuples.{Tuple, Placeholder}
use Rattle.spg_forest.specs.Pages.{place, tuple_on, with_tuple}
use Rattle.spg_forest.specs.Sheets.{Sheet, Sheets, with_tuples, size_of, links, free_place}
use Rattle.spg_forest.specs.Sheets as sheets
use Rattle.spg_forest.specs.Edits.{tuple_of, put, CanPut}
use Rattle.spg_forest.proofs.Edits.{tuple_put}
use Rattle.spg_forest.proofs.Spots.{put_at_same, put_at_other}
use Rattle.spg_page.specs.Changes.{room_of}
use Rattle.spg_page.specs.Kinds.{IsInner}
use Rattle.spg_page.proofs.SheetFacts.{free_place_free, free_place_length}
use Rattle.spg_tree.specs.Table.{Table, sheets_of, sheet_at, tuples_at, tuple_at}
use Rattle.spg_tree.specs.Writes.{added_table}
use Rattle.spg_move.specs.Splitting.{upper_table, fits_beside, MayPart}
use Rattle.spg_move.proofs.SplitHomes.{upper_inner, room_is}

-- the upper tuple stands while the lower one is added
pub upper_there : (t : Table) (x : Place) (h : ℕ) (up low : Tuple) → MayPart t x up → h < length t.pages → tuple_at (added_table (upper_table t x up) h low) x ≡ up
upper_there t x h up low M there =
    let S : Sheets = sheets_of t in
    let can : CanPut S x = record { block = M.block.1; positive = M.within.0; within = let k = M.within.1 in omega arith } in
    let Sa : Sheets = put S x up in
    let xa : tuple_of Sa x ≡ up = ap (λ (T : Place → Tuple). T x) (tuple_put S x up can) ∙ put_at_same (tuple_of S) x up x refl in
    let ts : List Tuple = (sheets.sheet_at Sa h).tuples in
    let y : Place = place h (suc (free_place ts)) in
    let n : x ≡ y → ⊥ = λ e. let a : IsInner Placeholder = subst IsInner (sym xa ∙ ap (tuple_of Sa) e ∙ free_place_free ts) (upper_inner t x up M) in cc in
    let l = length-set t.pages x.block (with_tuples (sheet_at t x.block) (with_tuple (tuples_at t x.block) x.offset up)) in
    let can_y : CanPut Sa y = record { block = omega arith; positive = omega arith; within = let f = free_place_length ts in omega arith } in
    ap (λ (T : Place → Tuple). T x) (tuple_put Sa y low can_y) ∙ put_at_other (tuple_of Sa) y low x n ∙ xa

pub child_there : (t t1 t2 : Table) (x : Place) (c h : ℕ) (up low : Tuple) → MayPart t x up → h < length t.pages → c < length (links up) → t1 ≡ upper_table t x up → t2 ≡ added_table t1 h low → c < length (links (tuple_at t2 x))
child_there t t1 t2 x c h up low M there k e f = subst (λ (u : Tuple). c < length (links u)) (sym (ap (λ (z : Table). tuple_at z x) (f ∙ ap (λ (z : Table). added_table z h low) e) ∙ upper_there t x h up low M there)) k

-- what the code compares
pub fits_is : (t : Table) (x : Place) (up low : Tuple) (page : Sheet) (room old new size : ℕ) → MayPart t x up → 3 ≤ x.block → page ≡ sheet_at t x.block → room ≡ room_of page.tuples 1 → old ≡ size_of (tuple_on page.tuples x.offset) → new ≡ size_of up → size ≡ size_of low →
    nat_le (size + 4) (room + old - new) ≡ fits_beside t x up low
fits_is t x up low page room old new size M high e r a b s =
    ap₂ (λ (n k : ℕ). nat_le (n + 4) k) s (room_is t x up page room old new M e r a b) ∙ sym (ap (λ z. z && nat_le (size_of low + 4) (room_of (tuples_at (upper_table t x up) x.block) 1)) (le-leb 3 x.block high))
