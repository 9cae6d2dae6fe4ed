-- A node put into an inner tuple that stays in its place.
use Rattle.std.proofs.Common.{◌≡◌, ℕ, ◌≤◌, ◌<◌, false, List, [], ◌∷◌, Option, Some, None, get_or, set, length, length-set, ⊎_elim, refl, sym, ap, ◌∙◌, subst, inl, arith}
use Rattle.std.proofs.lemmas.Bool.{cases_eq}
use Rattle.std.proofs.lemmas.List.Edits.{get_or-insert_at, length-insert}
use Rattle.std.specs.Prelude.{ℤ}
use Rattle.spg_opclass.specs.Meaning.{Meaning}
use Rattle.spg_opclass.specs.Laws.{AddLaw, CodeLaw}
use Rattle.spg_opclass.specs.declared.view.Choice.TheVariants.{Add}
use Rattle.spg_forest.specs.View.{Place}
use Rattle.spg_forest.specs.Spot.{Frame, Branch, put_at}
use Rattle.spg_forest.specs.Tuples.{Tuple, Inner}
use Rattle.spg_forest.specs.Pages.{with_tuple}
use Rattle.spg_forest.specs.Sheets.{Sheet, Sheets, sheet_at, with_tuples, weight, links}
use Rattle.spg_forest.specs.Shape.{Shape, spots}
use Rattle.spg_forest.specs.Section.{Leaves}
use Rattle.spg_forest.specs.Walk.{spread}
use Rattle.spg_forest.specs.Edits.{tuple_of, spot_of, put, CanPut}
use Rattle.spg_forest.specs.Changes.{Becomes}
use Rattle.spg_forest.specs.Exact.{IsExact}
use Rattle.spg_forest.proofs.Changes.{adds_node}
use Rattle.spg_forest.proofs.Edits.{sheet_same, sheet_other, tuple_put}
use Rattle.spg_forest.proofs.Joins.{weight_replaced}
use Rattle.spg_forest.proofs.Keeping.{leaves_coming}
use Rattle.spg_forest.proofs.Sections.{shape_shown}
use Rattle.spg_forest.proofs.Spots.{put_at_same, put_at_other, cases_place}
use Rattle.spg_forest.proofs.Stock.{tuple_is, pages_kept}
use Rattle.spg_page.specs.Kinds.{IsInner, kind_of}
use Rattle.spg_page.specs.Reads.{frame_in}
use Rattle.spg_tree.specs.Table.{Table, sheets_of, tuples_at, tuple_at}
use Rattle.spg_tree.specs.Descents.{Descending, in_nulls, with_node}
use Rattle.spg_tree.specs.declared.stand.Stand.{Stand}
use Rattle.spg_tree.specs.declared.stand.Stand.TheVariants.{Start, Root, At, Empty}
use Rattle.spg_descend.specs.Carried.{carried, IsCarried, WayFits}
use Rattle.spg_descend.specs.Follows.{IsAtInner, tuple_place, link_of}
use Rattle.spg_descend.specs.Makes.{MakesNone}
use Rattle.spg_descend.specs.Puts.{IsQuiet}
use Rattle.spg_descend.proofs.Exact.{exact_page, put_differs}
use Rattle.spg_descend.proofs.PutLaws.{kind_kept}
use Rattle.spg_descend.proofs.Stages.{Stage, begin_stage}
use Rattle.spg_descend.specs.Answers.{IsAnswered}
use Rattle.spg_move.specs.Answers.{IsInnerOf}
use Rattle.spg_move.specs.Nodes.{node_cost, Widens, IsNodeAdded}
use Rattle.spg_move.specs.Widening.{widened, widened_table}
use Rattle.spg_tree.specs.Writes.{FitsInPlace}
use Rattle.spg_move.proofs.NodePages.{inner_stage}
use Rattle.spg_move.proofs.NodeStanding as standing

module _ {Key Recon Cond : Type 0} (m : Meaning Key Recon Cond) (adds : AddLaw m) (codes : CodeLaw m) (t : Table) (d : Descending Recon) (at : ℕ) (label : ℤ) (H : Shape m (sheets_of t)) (A : IsInnerOf t (in_nulls d) d.stand d.parent) (main : in_nulls d ≡ false)
    (K : (key : Option Key) × IsCarried m (sheets_of t) d key) (W : IsAnswered m t d (Add at label)) where
  abbrev S : Sheets
  S = sheets_of t

  abbrev x : Place
  x = standing.x m adds codes t d at label H A main K W

  abbrev w : Frame
  w = standing.w m adds codes t d at label H A main K W

  abbrev ns : List (Option Place)
  ns = standing.ns m adds codes t d at label H A main K W

  abbrev w2 : Frame
  w2 = standing.w2 m adds codes t d at label H A main K W

  abbrev ns2 : List (Option Place)
  ns2 = standing.ns2 m adds codes t d at label H A main K W

  trees : (i : ℕ) (y : Place) → get_or ns2 i None ≡ Some y → (sheet_at S y.block).nulls ≡ (sheet_at S x.block).nulls
  trees i y e =
      let (j, f) = standing.led_before m adds codes t d at label H A main K W i y e in
      H.pages.trees x y w ns j (tuple_is S x ∙ standing.is m adds codes t d at label H A main K W) f

  can : CanPut S x
  can = let h = standing.within m adds codes t d at label H A main K W in record { block = (standing.here m adds codes t d at label H A main K W).1; positive = h.0; within = let k = h.1 in omega arith }

  abbrev S2 : Sheets
  S2 = put S x (Inner w2 ns2)

  module _ (room : FitsInPlace (tuples_at t x.block) x.offset (widened (tuple_at t x) at label)) where
    fits : weight (with_tuple (sheet_at S x.block).tuples x.offset (Inner w2 ns2)) ≤ 8160
    fits =
        let h = standing.within m adds codes t d at label H A main K W in
        let a = weight_replaced (tuples_at t x.block) x.offset (Inner w2 ns2) h.0 h.1 in let f = (H.pages.each x.block).fits in let r = room in omega arith

    stage : Stage m S S2 (put_at (spots S) (spot_of x) (Branch w2 ns2)) × (spread S2 ≡ spread S)
    stage =
        let k = standing.kind m adds codes t d at label H A main K W in
        inner_stage m S S (spots S) x w w2 ns ns2 (begin_stage m S (spots S) H.pages (shape_shown m S H)) can (standing.is m adds codes t d at label H A main K W) fits k.0
        (standing.nodes2 m adds codes t d at label H A main K W) (standing.tuple2 m adds codes t d at label H A main K W) trees

    becomes : Becomes m S S2 (put_at (spots S) (spot_of x) (Branch w2 ns2)) S.clock (x.block ∷ []) node_cost
    becomes = let (G, s) = stage in record {
      shown = G.shown;
      clock_is = refl;
      pages = pages_kept m S S2 H.pages G.changed;
      kinds = G.changed.kinds;
      within = record {
        others = λ b n. sheet_other S x.block _ b (λ e. n (inl e));
        few = omega arith;
        pages = let a = G.count in (omega arith, omega arith);
        clock = (omega arith, omega arith);
        spread = omega arith;
      };
    }

    leaves : Leaves m S S2 (x.block ∷ []) node_cost 0 (λ z. z)
    leaves = adds_node m S S2 (x.block ∷ []) node_cost (spot_of x) w w2 ns at H (standing.wider m adds codes t d at label H A main K W) becomes

    tuple_now : tuple_of S2 x ≡ Inner w2 ns2
    tuple_now = ap (λ (F : Place → Tuple). F x) (tuple_put S x (Inner w2 ns2) can) ∙ put_at_same (tuple_of S) x (Inner w2 ns2) x refl

    way : (st : Stand) → IsInnerOf t (in_nulls d) st d.parent → (key : Option Key) → WayFits m S st d.parent d.recon key → WayFits m S2 st d.parent d.recon key
    way Start a key c = absurd a
    way (Root b) a key c = c
    way (At y) a key c = leaves.section.fits y d.recon (Some key) c
    way Empty a key c = absurd a

    carries : (key : Option Key) → IsCarried m S d key → IsCarried m S2 (with_node d) key
    carries key C = record {
      of = record { start = C.of.start; whole = C.of.whole; gives = C.of.gives };
      begins = C.begins;
      fresh = (leaves_coming m S S2 (x.block ∷ []) node_cost 0 (λ z. z) (spot_of x) d.recon (carried d) key leaves
          (record { fresh = C.fresh; fits = standing.fit m adds codes t d at label H A main K W key C; rebuilt = C.rebuilt })).fresh;
      rest = C.rest;
      rebuilt = C.rebuilt;
      way = way d.stand A key C.way;
    }

    inner_now : IsAtInner (widened_table t x (Inner w2 ns2)) d.stand
    inner_now = let h = standing.here m adds codes t d at label H A main K W in
        (h.0, (let a = h.1 in let b = length-set t.pages x.block (with_tuples (sheet_at S x.block) (with_tuple (tuples_at t x.block) x.offset (Inner w2 ns2))) in omega arith), ap kind_of tuple_now)

    quiet : IsQuiet t (widened_table t x (Inner w2 ns2))
    quiet = record { latches = λ c. refl; clock = refl; counter = refl; limit = refl; roots = λ c h. kind_kept t x.block (with_tuple (tuples_at t x.block) x.offset (Inner w2 ns2)) c }

    -- the node of the tuple above still leads to it
    tree_kept : (c : ℕ) → (sheet_at S2 c).nulls ≡ (sheet_at S c).nulls
    tree_kept c =
        let s : Sheet = with_tuples (sheet_at S x.block) (with_tuple (sheet_at S x.block).tuples x.offset (Inner w2 ns2)) in
        ⊎_elim (λ e. subst (λ (b : ℕ). (sheet_at S2 b).nulls ≡ (sheet_at S b).nulls) (sym e) (ap (λ (z : Sheet). z.nulls) (sheet_same S x.block s can.block))) (λ n. ap (λ (z : Sheet). z.nulls) (sheet_other S x.block s c n)) (cases_eq c x.block)

    link_now : IsInnerOf (widened_table t x (Inner w2 ns2)) (in_nulls d) d.stand d.parent
    link_now = go d.stand d.parent refl refl A inner_now
      where
        go : (st : Stand) (pa : Option (Place × ℕ)) → d.stand ≡ st → d.parent ≡ pa → IsInnerOf t (in_nulls d) st pa → IsAtInner (widened_table t x (Inner w2 ns2)) st → IsInnerOf (widened_table t x (Inner w2 ns2)) (in_nulls d) st pa
        go Start pa es ep a J = absurd a
        go (Root b) pa es ep a J = (a.0, J)
        go (At z) None es ep a J = absurd a
        go (At z) (Some (p, i)) es ep (a, tree, (there, (f, ks, e, l))) J =
            let n : p ≡ x → ⊥ = λ q. (standing.hung_at m t H (in_nulls d) d.stand d.parent z p i es ep A).apart (q ∙ ap tuple_place es) in
            let k : length (set t.pages x.block (with_tuples (sheet_at S x.block) (with_tuple (tuples_at t x.block) x.offset (Inner w2 ns2)))) ≡ length t.pages = length-set t.pages x.block (with_tuples (sheet_at S x.block) (with_tuple (tuples_at t x.block) x.offset (Inner w2 ns2))) in (
              J,
              tree_kept z.block ∙ tree,
              (omega arith, (f, ks, ap (λ (F : Place → Tuple). F p) (tuple_put S x (Inner w2 ns2) can) ∙ put_at_other (tuple_of S) x (Inner w2 ns2) p n ∙ e, l)),
            )
        go Empty pa es ep a J = absurd a

    -- the node put in leads nowhere, and no inner tuple is made
    nowhere_now : link_of (widened_table t x (Inner w2 ns2)) x at ≡ None
    nowhere_now = ap (λ (u : Tuple). get_or (links u) at None) tuple_now ∙ get_or-insert_at ns at None None (standing.place_within m adds codes t d at label H A main K W)

    makes : MakesNone t (widened_table t x (Inner w2 ns2))
    makes z e = ⊎_elim (λ q. subst (λ (k : Place). IsInner (tuple_at t k)) (sym q) (standing.here m adds codes t d at label H A main K W).2)
        (λ n. subst IsInner (ap (λ (F : Place → Tuple). F z) (tuple_put S x (Inner w2 ns2) can) ∙ put_at_other (tuple_of S) x (Inner w2 ns2) z n) e) (cases_place z x)

    widens : Widens m t (widened_table t x (Inner w2 ns2)) d (with_node d) at label (λ z. z)
    widens = record { leaves = leaves; inner = inner_now; frame = ap frame_in tuple_now; nowhere = nowhere_now; carries = carries }

    pub added_here : (t2 : Table) (d2 : Descending Recon) → t2 ≡ widened_table t x (widened (tuple_at t x) at label) → d2 ≡ with_node d → IsNodeAdded m t t2 d d2 at label
    added_here t2 d2 et ed = subst (λ (u : Table). IsNodeAdded m t u d d2 at label) (sym et) (subst (λ (e : Descending Recon). IsNodeAdded m t (widened_table t x (Inner w2 ns2)) d e at label) (sym ed) (inl (refl, quiet, makes, link_now, widens)))

  -- the block named is the one written
  pub exact_here : (t2 : Table) → t2 ≡ widened_table t x (widened (tuple_at t x) at label) → IsExact S (sheets_of t2) t2.touched
  exact_here t2 et =
      let there : x.block < length t.pages = (standing.here m adds codes t d at label H A main K W).1 in
      let more = length-insert ns at None (standing.place_within m adds codes t d at label H A main K W) in
      let is : tuple_at t x ≡ Inner w ns = standing.is m adds codes t d at label H A main K W in
      subst (λ (z : Table). IsExact S (sheets_of z) z.touched) (sym et)
      (exact_page t x.block (with_tuple (tuples_at t x.block) x.offset (Inner w2 ns2)) there
      (put_differs (tuples_at t x.block) x.offset (Inner w2 ns2) (standing.within m adds codes t d at label H A main K W)
      (λ q. let e : Inner w2 ns2 ≡ Inner w ns = q ∙ is in let k : length ns2 ≡ length ns = ap (λ (u : Tuple). length (links u)) e in omega arith)))
