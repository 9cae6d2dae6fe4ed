-- An insert at an inner tuple into which a node is put: what is known of the tuple and of that above it.
use Rattle.std.proofs.Common.{◌≡◌, ℕ, ◌+◌, ◌*◌, ◌≤◌, ◌<◌, Bool, true, false, List, [], ◌∷◌, ⊎_elim, Option, Some, None, option_map, insert, get_or, length, refl, sym, ap, ◌∙◌, subst, arith}
use Rattle.std.specs.Prelude.{ℤ}
use Rattle.std.proofs.lemmas.Bool.{cases_lt}
use Rattle.std.proofs.lemmas.List.Edits.{length-insert}
use Rattle.spg_opclass.specs.Meaning.{Meaning, is_tuple, longer}
use Rattle.spg_opclass.specs.Laws.{AddLaw, CodeLaw, IsAdd}
use Rattle.spg_opclass.specs.declared.view.Choice.TheVariants.{Add}
use Rattle.spg_forest.specs.View.{Place}
use Rattle.spg_forest.specs.Spot.{Frame, Spot, Branch, child_of}
use Rattle.spg_forest.specs.Tuples.{Tuple, Inner}
use Rattle.spg_forest.specs.Pages.{place, tuple_on, page_of}
use Rattle.spg_forest.specs.Classes.{class_of, key_of, HasRecon}
use Rattle.spg_forest.specs.Fit.{FitAt}
use Rattle.spg_forest.specs.Sheets.{Sheet, Sheets, pages_of, size_of, weight, links}
use Rattle.spg_forest.specs.Shape.{Shape, AreNodes, IsKindOf, IsTupleOf, spots}
use Rattle.spg_forest.specs.Edits.{spot_of, CanPut}
use Rattle.spg_forest.specs.Changes.{IsLonger}
use Rattle.spg_forest.proofs.Edits.{page_is}
use Rattle.spg_forest.proofs.FitWay.{recon_of_fit}
use Rattle.spg_forest.proofs.Flat.{none_on, flat_on}
use Rattle.spg_forest.proofs.Follows.{add_widens}
use Rattle.spg_forest.proofs.Rework.{widened_by_insert}
use Rattle.spg_forest.proofs.Relocate.{no_loop, within_from_some}
use Rattle.spg_forest.proofs.Sections.{shape_shown, shape_tree}
use Rattle.spg_forest.proofs.Writes.{inner_at, high_spot}
use Rattle.spg_page.specs.Kinds.{IsOffset, IsInner}
use Rattle.spg_page.specs.Reads.{frame_in}
use Rattle.spg_tree.specs.Table.{Table, sheets_of, tuples_at, tuple_at}
use Rattle.spg_tree.specs.Table as table
use Rattle.spg_tree.specs.Descents.{Descending, in_nulls}
use Rattle.spg_tree.specs.declared.stand.Stand.{Stand}
use Rattle.spg_tree.specs.declared.stand.Stand.TheVariants.{Start, Root, At, Empty}
use Rattle.spg_descend.specs.Carried.{IsCarried, root_of}
use Rattle.spg_descend.specs.Follows.{IsAtInner, tuple_place}
use Rattle.spg_descend.proofs.EmptyLaw.{inner_within}
use Rattle.spg_descend.proofs.FollowLaw.{is_within, fit_here}
use Rattle.spg_descend.specs.Answers.{IsAnswered}
use Rattle.spg_move.specs.Answers.{IsInnerOf}
use Rattle.spg_move.specs.Nodes.{FitsWider}
use Rattle.spg_move.specs.Widening.{widened, IsHung}
use Rattle.spg_tree.specs.Writes.{FitsInPlace}
use Rattle.spg_move.proofs.SplitStanding.{inner_is}

pub at_inner : (t : Table) (nulls : Bool) (st : Stand) (pa : Option (Place × ℕ)) → IsInnerOf t nulls st pa → IsAtInner t st
at_inner t nulls Start pa a = absurd a
at_inner t nulls (Root b) pa a = a.1
at_inner t nulls (At x) None a = absurd a
at_inner t nulls (At x) (Some (p, i)) a = a.0
at_inner t nulls Empty pa a = absurd a

-- what the code compares
pub not_wider : {Recon : Type 0} (t : Table) (d : Descending Recon) (at : ℕ) (label : ℤ) (page : Sheet) (here : Place) (u : Tuple) → page ≡ table.sheet_at t here.block → here ≡ tuple_place d.stand → u ≡ widened (tuple_at t (tuple_place d.stand)) at label →
    (FitsInPlace page.tuples here.offset u → ⊥) → FitsWider t d at label → ⊥
not_wider t d at label page here u ep eh eu n f = n (subst (λ (s : Sheet). FitsInPlace s.tuples here.offset u) (sym ep)
    (subst (λ (z : Place). FitsInPlace (tuples_at t z.block) z.offset u) (sym eh) (subst (λ (v : Tuple). FitsInPlace (tuples_at t (tuple_place d.stand).block) (tuple_place d.stand).offset v) (sym eu) f)))

-- the size of a list with one inner tuple
alone_size : (ts : List Tuple) (v : Frame) (ms : List (Option Place)) → ts ≡ Inner v ms ∷ [] → weight ts ≡ size_of (tuple_on ts 1) + 4
alone_size ts v ms e = let a = ap weight e in let b = ap (λ us. size_of (tuple_on us 1)) e in omega arith

module _ {Key Recon Cond : Type 0} (m : Meaning Key Recon Cond) (t : Table) (H : Shape m (sheets_of t)) where
  abbrev S : Sheets
  S = sheets_of t

  root_tree : (nulls : Bool) → (table.sheet_at t (root_of nulls)).nulls ≡ nulls
  root_tree true = H.pages.nulls
  root_tree false = H.pages.main

  pub tree_here : (nulls : Bool) (st : Stand) (pa : Option (Place × ℕ)) → IsInnerOf t nulls st pa → (table.sheet_at t (tuple_place st).block).nulls ≡ nulls
  tree_here nulls Start pa a = absurd a
  tree_here nulls (Root b) pa a = ap (λ c. (table.sheet_at t c).nulls) a.0 ∙ root_tree nulls
  tree_here nulls (At x) None a = absurd a
  tree_here nulls (At x) (Some (p, i)) a = a.1
  tree_here nulls Empty pa a = absurd a

  root_block : (nulls : Bool) → (0 < root_of nulls) × (root_of nulls < 3)
  root_block true = (omega arith, omega arith)
  root_block false = (omega arith, omega arith)

  pub is_high : (nulls : Bool) (st : Stand) (pa : Option (Place × ℕ)) → IsInnerOf t nulls st pa → 0 < (tuple_place st).block
  is_high nulls Start pa a = absurd a
  is_high nulls (Root b) pa a = let h = (root_block nulls).0 in let e = a.0 in omega arith
  is_high nulls (At x) None a = absurd a
  is_high nulls (At x) (Some (p, i)) a = let h = a.0.0 in omega arith
  is_high nulls Empty pa a = absurd a

  -- on a root page nothing else stands
  root_fits : (b : ℕ) (u : Tuple) → 0 < b → b < 3 → IsInner (tuple_at t (place b 1)) → size_of u ≤ 8156 → FitsInPlace (tuples_at t b) 1 u
  root_fits b u p k inner small = ⊎_elim
      (λ (v, ms, e). let a = alone_size (tuples_at t b) v ms (sym (page_is S b) ∙ e) in let f = (H.pages.each b).fits in omega arith)
      (λ (ls, e). absurd (⊎_elim
      (λ q. let c = sym (inner_is (tuple_at t (place b 1)) inner) ∙ ap (λ ts. tuple_on ts 1) (sym (page_is S b) ∙ e) ∙ q in cc)
      (λ (l, i, q). let c = sym (inner_is (tuple_at t (place b 1)) inner) ∙ ap (λ ts. tuple_on ts 1) (sym (page_is S b) ∙ e) ∙ q in cc) (flat_on ls 1)))
      (H.links.root b p k)

  -- what does not fit in its place is not at a root
  not_at_root : (nulls : Bool) (b : ℕ) (pa : Option (Place × ℕ)) (u : Tuple) → IsInnerOf t nulls (Root b) pa → size_of u ≤ 8156 → (FitsInPlace (tuples_at t b) 1 u → ⊥) → ⊥
  not_at_root nulls b pa u a small n = n (root_fits b u (let h = (root_block nulls).0 in let e = a.0 in omega arith) a.1.0 a.1.2 small)

  kind_at : (x : Place) (w : Frame) (ns : List (Option Place)) → tuple_at t x ≡ Inner w ns → IsKindOf m (table.sheet_at t x.block).inner (table.sheet_at t x.block).nulls (Inner w ns)
  kind_at x w ns e = subst (λ (u : Tuple). IsKindOf m (table.sheet_at t x.block).inner (table.sheet_at t x.block).nulls u) e ((H.pages.each x.block).kinds x.offset)

  positive : (p : Place) (w : Frame) (ns : List (Option Place)) → tuple_at t p ≡ Inner w ns → 0 < p.block
  positive p w ns e = ⊎_elim (λ h. h) (λ h. absurd (meta (omega arith))) (cases_lt 0 p.block)
    where
      meta : p.block ≡ 0 → ⊥
      meta z =
          let n : tuples_at t p.block ≡ [] = sym (page_is S p.block) ∙ ap (page_of (pages_of S)) z ∙ H.links.meta in
          let c = sym (none_on (tuples_at t p.block) p.offset n) ∙ e in cc

  -- no node of a tuple leads to it
  not_itself : (x p : Place) (i : ℕ) → 3 ≤ x.block → x.block < length t.pages → (w : Frame) (ns : List (Option Place)) → tuple_at t p ≡ Inner w ns → get_or ns i None ≡ Some x → p ≡ x → ⊥
  not_itself x p i high there w ns e l q =
      let ex : tuple_at t x ≡ Inner w ns = ap (λ (z : Place). tuple_at t z) (sym q) ∙ e in
      let o = inner_within (tuples_at t x.block) x.offset w ns ex in
      let can : CanPut S x = record { block = there; positive = o.0; within = let k = o.1 in omega arith } in
      let s : spots S x ≡ Branch w ns = ap (spots S) (sym (high_spot x high)) ∙ (inner_at S (spots S) x w ns (shape_shown m S H) can ex).shown in
      no_loop (class_of m) (spots S) t.clock (shape_tree m S H) x i (ap (λ (z : Spot). child_of z i) s ∙ l)

  hung : (nulls : Bool) (x p : Place) (i : ℕ) → IsInnerOf t nulls (At x) (Some (p, i)) → IsHung t x p i
  hung nulls x p i (A, tree, (there, (w, ns, e, l))) =
      let ex = inner_is (tuple_at t x) A.2 in
      let k = kind_at x (frame_in (tuple_at t x)) (links (tuple_at t x)) ex in
      let n = k.1.some in
      let a = ap size_of ex in
      let high = A.0 in
      record {
        here = (omega arith, A.1);
        within = inner_within (tuples_at t x.block) x.offset (frame_in (tuple_at t x)) (links (tuple_at t x)) ex;
        size = omega arith;
        above = (positive p w ns e, there);
        above_within = inner_within (tuples_at t p.block) p.offset w ns e;
        apart = not_itself x p i A.0 A.1 w ns e l;
        node = let c = ap (λ (u : Tuple). length (links u)) e in let h = within_from_some ns i x l in omega arith;
      }

  pub hung_at : (nulls : Bool) (st : Stand) (pa : Option (Place × ℕ)) (x p : Place) (i : ℕ) → st ≡ At x → pa ≡ Some (p, i) → IsInnerOf t nulls st pa → IsHung t x p i
  hung_at nulls st pa x p i es ep a = hung nulls x p i (subst (λ (q : Option (Place × ℕ)). IsInnerOf t nulls (At x) q) ep (subst (λ (s : Stand). IsInnerOf t nulls s pa) es a))

  -- what does not fit in its place is below a tuple
  pub no_other : (nulls : Bool) (st : Stand) (pa : Option (Place × ℕ)) (u : Tuple) → IsInnerOf t nulls st pa → size_of u ≤ 8156 → (FitsInPlace (tuples_at t (tuple_place st).block) (tuple_place st).offset u → ⊥) → ((x p : Place) (i : ℕ) → st ≡ At x → pa ≡ Some (p, i) → ⊥) → ⊥
  no_other nulls Start pa u a small n k = a
  no_other nulls (Root b) pa u a small n k = not_at_root nulls b pa u a small n
  no_other nulls (At x) None u a small n k = a
  no_other nulls (At x) (Some (p, i)) u a small n k = k x p i refl refl
  no_other nulls Empty pa u a small n k = a

-- the class's answer
module _ {Key Recon Cond : Type 0} (m : Meaning Key Recon Cond) (adds : AddLaw m) (codes : CodeLaw m) (t : Table) (d : Descending Recon) (at : ℕ) (label : ℤ) (H : Shape m (sheets_of t)) (A : IsInnerOf t (in_nulls d) d.stand d.parent) (main : in_nulls d ≡ false)
    (K : (key : Option Key) × IsCarried m (sheets_of t) d key) (W : IsAnswered m t d (Add at label)) where
  abbrev pub x : Place
  x = tuple_place d.stand

  abbrev pub w : Frame
  w = frame_in (tuple_at t (tuple_place d.stand))

  abbrev pub ns : List (Option Place)
  ns = links (tuple_at t (tuple_place d.stand))

  abbrev pub w2 : Frame
  w2 = longer (frame_in (tuple_at t (tuple_place d.stand))) at label

  abbrev pub ns2 : List (Option Place)
  ns2 = insert (links (tuple_at t (tuple_place d.stand))) at None

  pub here : IsAtInner t d.stand
  here = at_inner t (in_nulls d) d.stand d.parent A

  pub is : tuple_at t x ≡ Inner w ns
  is = inner_is (tuple_at t x) here.2

  pub within : IsOffset (tuples_at t x.block) x.offset
  within = is_within t d.stand here

  pub kind : ((table.sheet_at t x.block).inner ≡ true) × AreNodes w ns × IsTupleOf m (table.sheet_at t x.block).nulls w
  kind = kind_at m t H x w ns is

  pub tree : (table.sheet_at t x.block).nulls ≡ false
  tree = tree_here m t H (in_nulls d) d.stand d.parent A ∙ main

  of_class : is_tuple m w ≡ true
  of_class = subst (λ (b : Bool). IsTupleOf m b w) tree kind.2

  -- the key that the rest gives
  given : (recon : Recon) → d.recon ≡ Some recon → (k : Key) × (m.rebuild recon d.rest ≡ Some k)
  given recon e = let (key, C) = K in go key (m.rebuild recon d.rest) (subst (λ (r : Option Recon). key_of m r d.rest ≡ Some key) e C.rebuilt)
    where
      go : (key : Option Key) (q : Option Key) → option_map Some q ≡ Some key → (k : Key) × (q ≡ Some k)
      go key None e = cc
      go key (Some k) e = (k, refl)

  add : IsAdd m W.0 w d.rest at label
  add = let (recon, e, a) = W in let (k, r) = given recon e in adds recon w d.rest k of_class r at label a

  pub place_within : at ≤ length ns
  place_within = let a = add.place in let b = kind.1.each in omega arith

  pub tuple2 : IsTupleOf m (table.sheet_at t x.block).nulls w2
  tuple2 = subst (λ (b : Bool). IsTupleOf m b w2) (sym tree) add.well_formed

  pub nodes2 : AreNodes w2 ns2
  nodes2 =
      let a = length-insert ns at None place_within in let b = length-insert w.labels at label add.place in let c = kind.1.each in
      record { each = omega arith; some = omega arith; same = λ e. let f : true ≡ false = sym e ∙ add.not_same in cc }

  pub small : size_of (widened (tuple_at t x) at label) ≤ 8156
  small = let a = codes.inner_fits w2 add.well_formed in let e = ap (λ n. 8 * n) nodes2.each in omega arith

  pub shown : spots (sheets_of t) (spot_of x) ≡ Branch w ns
  shown = let (key, C) = K in (fit_here m t d key H here C w ns is).0

  pub fit : (key : Option Key) → IsCarried m (sheets_of t) d key → FitAt (class_of m) (spots (sheets_of t)) (Some key) (spot_of x) d.recon
  fit key C = (fit_here m t d key H here C w ns is).1

  pub wider : IsLonger m (spots (sheets_of t)) (spot_of x) w w2 ns at
  wider =
      let (key, C) = K in let (recon, e, a) = W in let (k, r) = given recon e in
      let rc : HasRecon m (spots (sheets_of t)) (spot_of x) (Some recon) = subst (λ (q : Option Recon). HasRecon m (spots (sheets_of t)) (spot_of x) q) e (recon_of_fit (class_of m) (spots (sheets_of t)) (Some key) (spot_of x) d.recon (fit key C)) in
      add_widens m adds (sheets_of t) (spot_of x) w ns recon d.rest k at label H shown kind.1.each rc of_class r a

  -- the longer tuple leads where the old one led
  pub led_before : (j : ℕ) (y : Place) → get_or ns2 j None ≡ Some y → (i : ℕ) × (get_or ns i None ≡ Some y)
  led_before j y e =
      let (a, k, law) = wider in
      (widened_by_insert (class_of m) (λ r. HasRecon m (spots (sheets_of t)) (spot_of x) r) w w2 ns at k (λ r i h l. law r i h l)).back j y e
