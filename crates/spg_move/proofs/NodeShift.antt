-- A node put into an inner tuple that goes to another page.
use Rattle.std.proofs.Common.{◌≡◌, ℕ, suc, ◌+◌, ◌*◌, ◌≤◌, ◌<◌, true, List, ⊎_elim, Option, Some, None, insert, get_or, set, length, length-set, refl, sym, ap, ◌∙◌, subst, arith}
use mathlib.Core.Path.{fun_ext}
use Rattle.std.proofs.lemmas.Bool.{cases_eq}
use Rattle.std.proofs.lemmas.List.{get_or-set_same, get_or-set_other}
use Rattle.spg_opclass.specs.Meaning.{Meaning}
use Rattle.spg_forest.specs.View.{Place}
use Rattle.spg_forest.specs.Spot.{Frame, Spot, Branch, Forward, put_at}
use Rattle.spg_forest.specs.Tuples.{Tuple, Inner, Live, Redirect, Placeholder, IsAmong}
use Rattle.spg_forest.specs.Pages.{tuple_on, with_tuple, moved, IsShown}
use Rattle.spg_forest.specs.Sheets.{Sheets, sheet_at, pages_of, weight, size_of, linked}
use Rattle.spg_forest.specs.Shape.{Shape, AreNodes, IsKindOf, IsTupleOf, spots}
use Rattle.spg_forest.specs.Section.{Leaves, Cost}
use Rattle.spg_forest.specs.Walk.{spread, spread_at}
use Rattle.spg_forest.specs.Edits.{tuple_of, spot_of, put, CanPut, MayStand}
use Rattle.spg_forest.specs.Changes.{Becomes, IsLonger, IsMovable, moved_to}
use Rattle.spg_forest.proofs.Changes.{moves_node}
use Rattle.spg_forest.proofs.Edits.{sheet_laid, sheet_other, tuple_put}
use Rattle.spg_forest.proofs.Front.{nothing_at}
use Rattle.spg_forest.proofs.Joins.{weight_replaced, stands_within}
use Rattle.spg_forest.proofs.Move.{put_swap}
use Rattle.spg_forest.proofs.Relocate.{within_from_some}
use Rattle.spg_forest.proofs.Sections.{shape_shown}
use Rattle.spg_forest.proofs.Spots.{put_at_same, put_at_other, put_elim, cases_place}
use Rattle.spg_forest.proofs.Stock.{tuple_is, pages_kept}
use Rattle.spg_forest.proofs.Writes.{inner_at}
use Rattle.spg_page.specs.Changes.{room_of}
use Rattle.spg_page.specs.Kinds.{IsInner}
use Rattle.spg_page.proofs.SheetFacts.{added_fits, free_place_free}
use Rattle.spg_tree.specs.Table.{Table, sheets_of, tuples_at, tuple_at, with_touched}
use Rattle.spg_tree.specs.Table as table
use Rattle.spg_descend.specs.Makes.{MakesOne}
use Rattle.spg_descend.proofs.Stages.{Stage}
use Rattle.spg_tree.specs.Writes.{new_place}
use Rattle.spg_move.specs.Widening.{shifted_table, IsHung}
use Rattle.spg_move.proofs.NodePages.{timed_stage, put_stage, inner_stage, may_inner}
use Rattle.spg_move.proofs.NodeWrites as writes

-- what is known where the tuple at x goes to block b of a table u as a longer one
pub record CanShift {Key Recon Cond : Type 0} (m : Meaning Key Recon Cond) (u : Table) (b : ℕ) (x p : Place) (i : ℕ) (w w2 : Frame) (ns ns2 : List (Option Place)) (wp : Frame) (nsp : List (Option Place)) : Type 0 where
  pub shape : Shape m (sheets_of u)
  pub hung : IsHung u x p i
  pub x_from : 3 ≤ x.block
  pub b_from : 3 ≤ b
  pub b_there : b < length u.pages
  pub apart : x.block ≡ b → ⊥
  pub b_inner : (table.sheet_at u b).inner ≡ true
  pub b_tree : (table.sheet_at u b).nulls ≡ (table.sheet_at u x.block).nulls
  pub room : size_of (Inner w2 ns2) + 4 ≤ room_of (tuples_at u b) 1
  pub here : tuple_at u x ≡ Inner w ns
  pub above : tuple_at u p ≡ Inner wp nsp
  pub leads : get_or nsp i None ≡ Some x
  pub nodes : AreNodes w2 ns2
  pub tuple : IsTupleOf m (table.sheet_at u b).nulls w2
  pub trees : (j : ℕ) (z : Place) → get_or ns2 j None ≡ Some z → (table.sheet_at u z.block).nulls ≡ (table.sheet_at u b).nulls

module _ {Key Recon Cond : Type 0} (m : Meaning Key Recon Cond) (u : Table) (b : ℕ) (x p : Place) (i : ℕ) (w w2 : Frame) (ns ns2 : List (Option Place)) (wp : Frame) (nsp : List (Option Place)) (D : CanShift m u b x p i w w2 ns ns2 wp nsp) where
  abbrev S : Sheets
  S = sheets_of u

  abbrev V : Place → Spot
  V = spots (sheets_of u)

  abbrev y : Place
  y = new_place u b

  abbrev q : Place
  q = spot_of p

  abbrev red : Tuple
  red = Redirect (new_place u b) u.clock

  abbrev gs : List (Option Place)
  gs = set nsp i (Some (new_place u b))

  -- the pages with the clock raised, the longer tuple in its place, the redirect, and the downlink set
  abbrev S0 : Sheets
  S0 = record { clock = u.clock + 1; sheets = u.pages }

  abbrev Sa : Sheets
  Sa = put S0 y (Inner w2 ns2)

  abbrev Sx : Sheets
  Sx = put Sa x red

  abbrev pub S2 : Sheets
  S2 = put Sx p (Inner wp gs)

  there : (0 < b) × (b < length u.pages)
  there = let a = D.b_from in (omega arith, D.b_there)

  shown : IsShown (pages_of S) V
  shown = shape_shown m S D.shape

  G0 : Stage m S S0 V
  G0 = timed_stage m S V (u.clock + 1) D.shape shown

  -- the longer tuple
  can_y : CanPut S0 y
  can_y = let c = writes.can_y u x p i b (Inner w2 ns2) D.hung there D.apart in record { block = c.block; positive = c.positive; within = c.within }

  y_free : tuple_of S0 y ≡ Placeholder
  y_free = free_place_free (tuples_at u b)

  A1 : Stage m S Sa (put_at V y (Branch w2 ns2)) × (spread Sa + spread_at (tuple_of S0 y) ≡ spread S0 + 1)
  A1 = put_stage m S S0 V y (Inner w2 ns2) (Branch w2 ns2) G0 D.b_from can_y (λ l n e. let c : Placeholder ≡ Live l n = sym y_free ∙ e in cc) refl
      (may_inner m S S0 V y w2 ns2 G0 D.b_inner D.nodes D.tuple D.trees) (added_fits (tuples_at u b) (Inner w2 ns2) (D.shape.pages.each b).fits D.room)

  y_not_x : y ≡ x → ⊥
  y_not_x = writes.y_not_x u x p i b (Inner w2 ns2) D.hung there D.apart

  p_not_y : p ≡ y → ⊥
  p_not_y = writes.p_not_y u x p i b (Inner w2 ns2) D.hung there D.apart

  -- the redirect
  x_kept : tuple_of Sa x ≡ Inner w ns
  x_kept = ap (λ (F : Place → Tuple). F x) (tuple_put S0 y (Inner w2 ns2) can_y) ∙ put_at_other (tuple_of S0) y (Inner w2 ns2) x (λ e. y_not_x (sym e)) ∙ D.here

  can_x : CanPut Sa x
  can_x = let c = writes.can_x u x p i b (Inner w2 ns2) D.hung there D.apart in record { block = c.block; positive = c.positive; within = c.within }

  x_fits : weight (with_tuple (sheet_at Sa x.block).tuples x.offset red) ≤ 8160
  x_fits =
      let ts : List Tuple = (sheet_at Sa x.block).tuples in
      let a = weight_replaced ts x.offset red can_x.positive (stands_within ts x.offset (λ e. let c : Inner w ns ≡ Placeholder = sym x_kept ∙ e in cc)) in
      let k = D.hung.size in let e = ap size_of D.here in let f = ap size_of x_kept in let g = A1.0.changed.fits x.block in omega arith

  x_may : MayStand m Sa x red
  x_may = record {
    kind = tt;
    tree = λ z v vs j e a. cc;
    redirect = λ z n e. let d : y ≡ z = cc in subst (λ (v : Place). (v ≡ x → ⊥) × (3 ≤ v.block) × (v.block < length Sa.sheets)) d (y_not_x, D.b_from, let c = A1.0.count in let k = D.b_there in omega arith);
  }

  abbrev Vx : Place → Spot
  Vx = put_at (put_at V y (Branch w2 ns2)) x (Forward y u.clock)

  A2 : Stage m S Sx Vx × (spread Sx + spread_at (tuple_of Sa x) ≡ spread Sa + 0)
  A2 = put_stage m S Sa (put_at V y (Branch w2 ns2)) x red (Forward y u.clock) A1.0 D.x_from can_x (λ l n e. let c : Inner w ns ≡ Live l n = sym x_kept ∙ e in cc) refl x_may x_fits

  -- the tuple above
  p_kept : tuple_of Sx p ≡ Inner wp nsp
  p_kept =
      ap (λ (F : Place → Tuple). F p) (tuple_put Sa x red can_x) ∙ put_at_other (tuple_of Sa) x red p D.hung.apart
      ∙ ap (λ (F : Place → Tuple). F p) (tuple_put S0 y (Inner w2 ns2) can_y) ∙ put_at_other (tuple_of S0) y (Inner w2 ns2) p p_not_y ∙ D.above

  p_here : p.offset ≤ length (sheet_at Sx p.block).tuples
  p_here = stands_within (sheet_at Sx p.block).tuples p.offset (λ e. let c : Inner wp nsp ≡ Placeholder = sym p_kept ∙ e in cc)

  can_p : CanPut Sx p
  can_p = record { block = let c = A2.0.count in let k = D.hung.above in omega arith; positive = D.hung.above_within.0; within = let k = p_here in omega arith }

  in_range : i < length nsp
  in_range = within_from_some nsp i x D.leads

  p_fits : weight (with_tuple (sheet_at Sx p.block).tuples p.offset (Inner wp gs)) ≤ 8160
  p_fits =
      let a = weight_replaced (sheet_at Sx p.block).tuples p.offset (Inner wp gs) can_p.positive p_here in
      let e = ap size_of p_kept in let l = ap (λ n. 8 * n) (length-set nsp i (Some y)) in
      let d = A2.0.changed.fits p.block in omega arith

  p_kind : IsKindOf m (sheet_at S p.block).inner (sheet_at S p.block).nulls (Inner wp nsp)
  p_kind = subst (λ (t : Tuple). IsKindOf m (sheet_at S p.block).inner (sheet_at S p.block).nulls t) D.above ((D.shape.pages.each p.block).kinds p.offset)

  p_nodes : AreNodes wp gs
  p_nodes = let N = p_kind.1 in let l = length-set nsp i (Some y) in record { each = l ∙ N.each; some = let k = N.some in omega arith; same = N.same }

  x_tree : (sheet_at S x.block).nulls ≡ (sheet_at S p.block).nulls
  x_tree = D.shape.pages.trees p x wp nsp i (tuple_is S p ∙ D.above) D.leads

  p_trees : (j : ℕ) (z : Place) → get_or gs j None ≡ Some z → (sheet_at S z.block).nulls ≡ (sheet_at S p.block).nulls
  p_trees j z e = ⊎_elim
      (λ h. let c : Some y ≡ Some z = sym (ap (λ k. get_or gs k None) h ∙ get_or-set_same nsp i (Some y) None in_range) ∙ e in let f : y ≡ z = cc in ap (λ (v : Place). (sheet_at S v.block).nulls) (sym f) ∙ D.b_tree ∙ x_tree)
      (λ n. D.shape.pages.trees p z wp nsp j (tuple_is S p ∙ D.above) (sym (get_or-set_other nsp i j (Some y) None n) ∙ e)) (cases_eq j i)

  A3 : Stage m S S2 (put_at Vx q (Branch wp gs)) × (spread S2 ≡ spread Sx)
  A3 = inner_stage m S Sx Vx p wp wp nsp gs A2.0 can_p p_kept p_fits p_kind.0 p_nodes p_kind.2 p_trees

  -- in whichever order
  put_same : put_at V y (V y) ≡ V
  put_same = fun_ext (put_elim V y (V y) (λ z s. s ≡ V z) refl (λ z n. refl))

  V2_is : put_at Vx q (Branch wp gs) ≡ moved_to V u.clock x y (Branch w2 ns2) q wp nsp i
  V2_is = ap (λ (U : Place → Spot). put_at U q (Branch wp gs)) (sym (put_swap V y x (V y) (Forward y u.clock) (Branch w2 ns2) y_not_x) ∙ ap (λ (U : Place → Spot). put_at (put_at U x (Forward y u.clock)) y (Branch w2 ns2)) put_same)

  movable : IsMovable V x y q wp nsp i
  movable = record {
    free = (nothing_at (tuple_on (tuples_at u b)) y.offset (V y) ((sheet_laid S V b D.b_from shown).shows y.offset) y_free, λ z. absurd (omega arith));
    parent = (inner_at S V p wp nsp shown (record { block = D.hung.above.1; positive = D.hung.above_within.0; within = let k = D.hung.above_within.1 in omega arith }) D.above).shown;
    downlink = D.leads;
  }

  abbrev cost : Cost
  cost = record { pages = 0; ticks = 1; spread = 0 }

  becomes : (touched : List ℕ) → length touched ≤ 8 → ((c : ℕ) → (IsAmong c touched → ⊥) → (c ≡ x.block → ⊥) × (c ≡ p.block → ⊥) × (c ≡ b → ⊥)) → Becomes m S S2 (moved_to V u.clock x y (Branch w2 ns2) q wp nsp i) (suc S.clock) touched cost
  becomes touched few away = record {
    shown = subst (λ (U : Place → Spot). IsShown (pages_of S2) U) V2_is A3.0.shown;
    clock_is = omega arith;
    pages = pages_kept m S S2 D.shape.pages A3.0.changed;
    kinds = A3.0.changed.kinds;
    within = record {
      others = λ c n. let (nx, np, nb) = away c n in sheet_other Sx p.block _ c np ∙ sheet_other Sa x.block _ c nx ∙ sheet_other S0 b _ c nb;
      few = few;
      pages = let a = A3.0.count in (omega arith, omega arith);
      clock = (omega arith, omega arith);
      spread = let a1 = A1.1 in let a2 = A2.1 in let a3 = A3.1 in let e1 = ap spread_at y_free in let e2 = ap spread_at x_kept in omega arith;
    };
  }

  -- the law
  pub shifts : (touched : List ℕ) (at : ℕ) → ns2 ≡ insert ns at None → IsLonger m V x w w2 ns at → length touched ≤ 8 → ((c : ℕ) → (IsAmong c touched → ⊥) → (c ≡ x.block → ⊥) × (c ≡ p.block → ⊥) × (c ≡ b → ⊥)) → Leaves m S S2 touched cost 0 (moved x y)
  shifts touched at e L few away = moves_node m S S2 touched cost x y q w w2 wp ns nsp at i D.shape movable L
      (subst (λ (ks : List (Option Place)). Becomes m S S2 (moved_to V u.clock x y (Branch w2 ks) q wp nsp i) (suc S.clock) touched cost) e (becomes touched few away))

  -- the tuples then
  tuples_now : tuple_of S2 ≡ put_at (put_at (put_at (tuple_of S0) y (Inner w2 ns2)) x red) p (Inner wp gs)
  tuples_now = tuple_put Sx p (Inner wp gs) can_p ∙ ap (λ (F : Place → Tuple). put_at F p (Inner wp gs)) (tuple_put Sa x red can_x ∙ ap (λ (F : Place → Tuple). put_at F x red) (tuple_put S0 y (Inner w2 ns2) can_y))

  pub y_now : tuple_of S2 y ≡ Inner w2 ns2
  y_now = ap (λ (F : Place → Tuple). F y) tuples_now ∙ put_at_other (put_at (put_at (tuple_of S0) y (Inner w2 ns2)) x red) p (Inner wp gs) y (λ e. p_not_y (sym e))
      ∙ put_at_other (put_at (tuple_of S0) y (Inner w2 ns2)) x red y y_not_x ∙ put_at_same (tuple_of S0) y (Inner w2 ns2) y refl

  pub x_now : tuple_of S2 x ≡ red
  x_now = ap (λ (F : Place → Tuple). F x) tuples_now ∙ put_at_other (put_at (put_at (tuple_of S0) y (Inner w2 ns2)) x red) p (Inner wp gs) x (λ e. D.hung.apart (sym e))
      ∙ put_at_same (put_at (tuple_of S0) y (Inner w2 ns2)) x red x refl

  pub p_now : tuple_of S2 p ≡ Inner wp gs
  p_now = ap (λ (F : Place → Tuple). F p) tuples_now ∙ put_at_same (put_at (put_at (tuple_of S0) y (Inner w2 ns2)) x red) p (Inner wp gs) p refl

  pub leads_now : get_or gs i None ≡ Some y
  leads_now = get_or-set_same nsp i (Some y) None in_range

  pub count_now : length S2.sheets ≡ length S.sheets
  count_now = A3.0.count

  pub kinds_now : (c : ℕ) → (sheet_at S2 c).inner ≡ (sheet_at S c).inner
  kinds_now c = (A3.0.kinds c).0

  -- the pages of the table
  pub table_is : (bs : List ℕ) → sheets_of (with_touched (shifted_table u b x p i (Inner w2 ns2)) bs) ≡ S2
  table_is bs = ap (λ (v : Tuple). put Sx p (linked v i (Some y))) p_kept

  -- but at y, an inner tuple stands only where one stood
  made : (z : Place) → (z ≡ y → ⊥) → IsInner (tuple_of S2 z) → IsInner (tuple_at u z)
  made z n e = ⊎_elim (λ q. subst (λ (k : Place). IsInner (tuple_at u k)) (sym q) (subst IsInner (sym D.above) refl))
      (λ np. ⊎_elim (λ q. subst (λ (k : Place). IsInner (tuple_at u k)) (sym q) (subst IsInner (sym D.here) refl))
      (λ nx. subst IsInner (ap (λ (F : Place → Tuple). F z) tuples_now ∙ put_at_other (put_at (put_at (tuple_of S0) y (Inner w2 ns2)) x red) p (Inner wp gs) z np
      ∙ put_at_other (put_at (tuple_of S0) y (Inner w2 ns2)) x red z nx ∙ put_at_other (tuple_of S0) y (Inner w2 ns2) z n) e) (cases_place z x)) (cases_place z p)

  pub makes_one : (bs : List ℕ) → MakesOne u (with_touched (shifted_table u b x p i (Inner w2 ns2)) bs) (new_place u b)
  makes_one bs z n e = made z n (subst (λ (Z : Sheets). IsInner (tuple_of Z z)) (table_is bs) e)
