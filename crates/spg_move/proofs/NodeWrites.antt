-- The tables between the writes of an inner tuple that goes to another page.
use Rattle.std.proofs.Common.{◌≡◌, ℕ, ◌<◌, List, length, length-set, sym, ap, ap₂, ◌∙◌, subst, arith}
use Rattle.spg_forest.specs.View.{Place}
use Rattle.spg_forest.specs.Tuples.{Tuple, Redirect, Placeholder}
use Rattle.spg_forest.specs.Sheets.{Sheet, with_tuples, links}
use Rattle.spg_forest.specs.Edits.{CanPut}
use Rattle.spg_forest.proofs.Edits.{sheet_other, tuple_put}
use Rattle.spg_forest.proofs.Spots.{put_at_other}
use Rattle.spg_page.specs.Changes.{added}
use Rattle.spg_page.specs.Kinds.{IsOffset}
use Rattle.spg_page.proofs.SheetFacts.{free_place_free, free_place_length}
use Rattle.spg_tree.specs.Table.{Table, sheets_of, sheet_at, tuples_at, tuple_at}
use Rattle.spg_tree.specs.Writes.{new_place, added_table, put_table}
use Rattle.spg_move.specs.Widening.{left_table, IsHung}

-- where nothing stands no node is
no_node : (u : Tuple) (i : ℕ) → i < length (links u) → u ≡ Placeholder → ⊥
no_node u i h e = let a = ap (λ (v : Tuple). length (links v)) e in absurd (omega arith)

module _ (t : Table) (x p : Place) (i b : ℕ) (u : Tuple) (h : IsHung t x p i) (there : (0 < b) × (b < length t.pages)) (apart : x.block ≡ b → ⊥) where
  abbrev y : Place
  y = new_place t b

  abbrev ta : Table
  ta = added_table t b u

  abbrev tx : Table
  tx = left_table t b x u

  abbrev red : Tuple
  red = Redirect (new_place t b) t.clock

  pub can_y : CanPut (sheets_of t) y
  can_y = record { block = there.1; positive = omega arith; within = let f = free_place_length (tuples_at t b) in omega arith }

  y_free : tuple_at t y ≡ Placeholder
  y_free = free_place_free (tuples_at t b)

  pub y_not_x : y ≡ x → ⊥
  y_not_x e = apart (sym (ap (λ (z : Place). z.block) e))

  pub p_not_y : p ≡ y → ⊥
  p_not_y e = no_node (tuple_at t p) i h.node (ap (tuple_at t) e ∙ y_free)

  count_a : length ta.pages ≡ length t.pages
  count_a = length-set t.pages b (with_tuples (sheet_at t b) (added (tuples_at t b) u))

  x_page : tuples_at ta x.block ≡ tuples_at t x.block
  x_page = ap (λ (s : Sheet). s.tuples) (sheet_other (sheets_of t) b (with_tuples (sheet_at t b) (added (tuples_at t b) u)) x.block apart)

  x_there : (0 < x.block) × (x.block < length ta.pages)
  x_there = let a = h.here in let c = count_a in (a.0, omega arith)

  x_within : IsOffset (tuples_at ta x.block) x.offset
  x_within = subst (λ (ts : List Tuple). IsOffset ts x.offset) (sym x_page) h.within

  pub can_x : CanPut (sheets_of ta) x
  can_x = let a = x_within in record { block = x_there.1; positive = a.0; within = let k = a.1 in omega arith }

  p_tuple : tuple_at tx p ≡ tuple_at t p
  p_tuple =
      ap (λ (F : Place → Tuple). F p) (tuple_put (sheets_of ta) x red can_x) ∙ put_at_other (tuple_at ta) x red p h.apart
      ∙ ap (λ (F : Place → Tuple). F p) (tuple_put (sheets_of t) y u can_y) ∙ put_at_other (tuple_at t) y u p p_not_y

  pub p_node : i < length (links (tuple_at tx p))
  p_node = subst (λ (v : Tuple). i < length (links v)) (sym p_tuple) h.node

  -- what the code does one after another
  pub left_is : (ta2 tx2 : Table) (to : Place) (r : Tuple) (stamp clock : ℕ) → ta2 ≡ ta → to ≡ y → r ≡ Redirect to stamp → stamp ≡ clock → clock ≡ ta2.clock → tx2 ≡ put_table ta2 x r → tx2 ≡ tx
  left_is ta2 tx2 to r stamp clock ea et er es ec ex = ex ∙ ap₂ (λ (z : Table) (v : Tuple). put_table z x v) ea (er ∙ ap₂ Redirect et (es ∙ ec ∙ ap (λ (z : Table). z.clock) ea))
