-- What comes of an inner tuple that goes to a picked page with one more node.
use Rattle.std.proofs.Common.{◌≡◌, ℕ, ◌+◌, ◌≤◌, ◌<◌, Bool, false, List, [], ◌∷◌, ◌++◌, ⊎_elim, Option, Some, None, get_or, set, length, refl, sym, ap, ◌∙◌, subst, inl, inr, arith}
use Rattle.std.specs.Prelude.{ℤ, ◌%◌}
use Rattle.std.proofs.lemmas.List.Edits.{get_or-insert_at}
use Rattle.spg_opclass.specs.Meaning.{Meaning}
use Rattle.spg_opclass.specs.Laws.{AddLaw, CodeLaw}
use Rattle.spg_opclass.specs.declared.view.Choice.TheVariants.{Add}
use Rattle.spg_forest.specs.View.{Place}
use Rattle.spg_forest.specs.Spot.{Frame, Spot}
use Rattle.spg_forest.specs.Tuples.{Tuple, Inner, Redirect, Placeholder, IsAmong}
use Rattle.spg_forest.specs.Pages.{tuple_on, moved}
use Rattle.spg_forest.specs.Classes.{class_of}
use Rattle.spg_forest.specs.Fit.{FitAt}
use Rattle.spg_forest.specs.Sheets.{Sheet, Sheets, sheet_at, size_of, links}
use Rattle.spg_forest.specs.Shape.{Shape, IsTupleOf, spots}
use Rattle.spg_forest.specs.Section.{Leaves}
use Rattle.spg_forest.specs.Edits.{tuple_of}
use Rattle.spg_forest.specs.Changes.{IsLonger}
use Rattle.spg_forest.specs.Exact.{IsWritten, AreOnce, IsExact}
use Rattle.spg_forest.proofs.Exact.{written_at, among_cases, once_both, exact_range}
use Rattle.spg_forest.specs.Puts.{IsComing}
use Rattle.spg_forest.proofs.Keeping.{leaves_coming}
use Rattle.spg_forest.proofs.Picks.{picked_shape, picked_spots, leaves_after_pick}
use Rattle.spg_forest.proofs.Relocate.{moved_here}
use Rattle.spg_forest.proofs.Stock.{tuple_is}
use Rattle.spg_forest.proofs.Writes.{high_spot}
use Rattle.spg_page.specs.Kinds.{IsOffset, kind_of}
use Rattle.spg_page.specs.Reads.{frame_in}
use Rattle.spg_page.proofs.SheetFacts.{free_place_free}
use Rattle.spg_tree.specs.Table.{Table, sheets_of, tuples_at, tuple_at, with_touched}
use Rattle.spg_tree.specs.Table as table
use Rattle.spg_tree.specs.Pick.{Picks}
use Rattle.spg_tree.specs.Picked.{IsPicked}
use Rattle.spg_tree.specs.Descents.{Descending, in_nulls, placed, with_node}
use Rattle.spg_tree.specs.declared.stand.Stand.{Stand}
use Rattle.spg_tree.specs.declared.stand.Stand.TheVariants.{Start, Root, At, Empty}
use Rattle.spg_descend.specs.Below.{IsLink, IsTicked, IsLedTo}
use Rattle.spg_descend.specs.Carried.{carried, IsCarried}
use Rattle.spg_descend.specs.Follows.{IsAtInner, tuple_place, link_of}
use Rattle.spg_descend.specs.Makes.{MakesOne}
use Rattle.spg_descend.proofs.Makes.{makes_same}
use Rattle.spg_tree.specs.Another.{another}
use Rattle.spg_tree.specs.Writes.{new_place}
use Rattle.spg_tree.proofs.Among.{another_is, another_once}
use Rattle.spg_descend.specs.Answers.{IsAnswered}
use Rattle.spg_move.specs.Answers.{IsInnerOf}
use Rattle.spg_move.specs.Nodes.{node_cost, FitsWider, Widens, IsNodeAdded}
use Rattle.spg_move.specs.Widening.{widened, shifted_table, blocks_shifted, node_want, IsHung, IsShifted, IsShiftedAt, IsShiftedFrom}
use Rattle.spg_tree.proofs.PickedPages.{PicksPage, picks_page}
use Rattle.spg_move.proofs.NodePicks.{shifted_few, IsAway, away}
use Rattle.spg_move.proofs.NodeShift.{CanShift, S2, shifts, x_now, y_now, p_now, leads_now, count_now, kinds_now, table_is, makes_one}
use Rattle.spg_move.proofs.NodeStanding as standing

-- a pick changes no tuple
pub hung_after : (t t1 : Table) (x p : Place) (i : ℕ) → ((c : ℕ) → tuples_at t1 c ≡ tuples_at t c) → length t.pages ≤ length t1.pages → IsHung t x p i → IsHung t1 x p i
hung_after t t1 x p i same more h = record {
  here = (h.here.0, let k = h.here.1 in omega arith);
  within = subst (λ (ts : List Tuple). IsOffset ts x.offset) (sym (same x.block)) h.within;
  size = subst (λ (ts : List Tuple). 16 ≤ size_of (tuple_on ts x.offset)) (sym (same x.block)) h.size;
  above = (h.above.0, let k = h.above.1 in omega arith);
  above_within = subst (λ (ts : List Tuple). IsOffset ts p.offset) (sym (same p.block)) h.above_within;
  apart = h.apart;
  node = subst (λ (ts : List Tuple). i < length (links (tuple_on ts p.offset))) (sym (same p.block)) h.node;
}

module _ {Key Recon Cond : Type 0} (m : Meaning Key Recon Cond) (adds : AddLaw m) (codes : CodeLaw m) (t : Table) (d : Descending Recon) (at : ℕ) (label : ℤ) (H : Shape m (sheets_of t)) (A : IsInnerOf t (in_nulls d) d.stand d.parent) (main : in_nulls d ≡ false)
    (K : (key : Option Key) × IsCarried m (sheets_of t) d key) (W : IsAnswered m t d (Add at label)) where
  abbrev S : Sheets
  S = sheets_of t

  abbrev x : Place
  x = standing.x m adds codes t d at label H A main K W

  abbrev w : Frame
  w = standing.w m adds codes t d at label H A main K W

  abbrev ns : List (Option Place)
  ns = standing.ns m adds codes t d at label H A main K W

  abbrev w2 : Frame
  w2 = standing.w2 m adds codes t d at label H A main K W

  abbrev ns2 : List (Option Place)
  ns2 = standing.ns2 m adds codes t d at label H A main K W

  -- on the picked page b
  module _ (p : Place) (i : ℕ) (pa : d.parent ≡ Some (p, i)) (high : 3 ≤ x.block) (hung : IsHung t x p i) (link : IsLink t p i x) (t1 : Table) (b seat : ℕ)
      (Q : Picks t (node_want (in_nulls d) x.block (size_of (Inner w2 ns2)) seat) b t1) (P : IsPicked t (node_want (in_nulls d) x.block (size_of (Inner w2 ns2)) seat) b t1) where
    abbrev S1 : Sheets
    S1 = sheets_of t1

    abbrev y : Place
    y = new_place t1 b

    abbrev wp : Frame
    wp = frame_in (tuple_at t p)

    abbrev nsp : List (Option Place)
    nsp = links (tuple_at t p)

    abbrev bs : List ℕ
    bs = blocks_shifted x.block p.block b (length t.pages) (length t1.pages)

    abbrev T : Table
    T = with_touched (shifted_table t1 b x p i (Inner w2 ns2)) (blocks_shifted x.block p.block b (length t.pages) (length t1.pages))

    page : PicksPage t t1 b
    page = picks_page t t1 (node_want (in_nulls d) x.block (size_of (Inner w2 ns2)) seat) b H.pages.count P Q

    shape1 : Shape m S1
    shape1 = picked_shape m S S1 page.pages H

    es : spots S1 ≡ spots S
    es = picked_spots m S S1 page.pages H

    apart : x.block ≡ b → ⊥
    apart e = let k = P.not_avoided (ap Some e) in let h = hung.here.1 in absurd (omega arith)

    same_tuple : (z : Place) → tuple_at t1 z ≡ tuple_at t z
    same_tuple z = ap (λ (ts : List Tuple). tuple_on ts z.offset) (P.tuples z.block)

    x_page : table.sheet_at t1 x.block ≡ table.sheet_at t x.block
    x_page = page.others x.block apart (inl hung.here.1)

    b_tree : (table.sheet_at t1 b).nulls ≡ (table.sheet_at t x.block).nulls
    b_tree = P.tree ∙ sym (standing.tree_here m t H (in_nulls d) d.stand d.parent A)

    is1 : tuple_at t1 x ≡ Inner w ns
    is1 = same_tuple x ∙ standing.is m adds codes t d at label H A main K W

    -- the tuple above
    above_is : (tuple_at t p ≡ Inner wp nsp) × (get_or nsp i None ≡ Some x)
    above_is = let (there, (v, vs, e, l)) = link in (
      e ∙ sym (ap (λ (u : Tuple). Inner (frame_in u) (links u)) e),
      ap (λ (u : Tuple). get_or (links u) i None) e ∙ l,
    )

    can : CanShift m t1 b x p i w w2 ns ns2 wp nsp
    can = record {
      shape = shape1;
      hung = hung_after t t1 x p i P.tuples P.least hung;
      x_from = high;
      b_from = P.from;
      b_there = P.there;
      apart = apart;
      b_inner = P.kind;
      b_tree = b_tree ∙ ap (λ (s : Sheet). s.nulls) (sym x_page);
      room = P.room;
      here = is1;
      above = same_tuple p ∙ above_is.0;
      leads = above_is.1;
      nodes = standing.nodes2 m adds codes t d at label H A main K W;
      tuple = subst (λ (n : Bool). IsTupleOf m n w2) (sym b_tree) (standing.tuple2 m adds codes t d at label H A main K W);
      trees = λ j z e. let (k, f) = standing.led_before m adds codes t d at label H A main K W j z e in
          shape1.pages.trees x z w ns k (tuple_is S1 x ∙ is1) f ∙ ap (λ (s : Sheet). s.nulls) x_page ∙ sym b_tree;
    }

    longer1 : IsLonger m (spots S1) x w w2 ns at
    longer1 = subst (λ (V : Place → Spot). IsLonger m V x w w2 ns at) (sym es) (subst (λ (z : Place). IsLonger m (spots S) z w w2 ns at) (high_spot x high) (standing.wider m adds codes t d at label H A main K W))

    off : (c : ℕ) → (IsAmong c bs → ⊥) → IsAway x.block p.block b (length t.pages) (length t1.pages) c
    off c n = away x.block p.block b (length t.pages) (length t1.pages) c P.least hung.above.1 P.there n

    sheets_T : sheets_of T ≡ S2 m t1 b x p i w w2 ns ns2 wp nsp can
    sheets_T = table_is m t1 b x p i w w2 ns ns2 wp nsp can bs

    leaves : Leaves m S (sheets_of T) bs node_cost 0 (moved x y)
    leaves =
        let X = shifts m t1 b x p i w w2 ns ns2 wp nsp can bs at refl longer1 (shifted_few x.block p.block b (length t.pages) (length t1.pages) P.most) (λ c n. let a = off c n in (a.old, a.above, a.picked)) in
        subst (λ (Z : Sheets). Leaves m S Z bs node_cost 0 (moved x y)) (sym sheets_T)
        (leaves_after_pick m S S1 (S2 m t1 b x p i w w2 ns ns2 wp nsp can) bs (record { pages = 0; ticks = 1; spread = 0 }) 3 0 (moved x y) H page.pages (λ c n. let a = off c n in page.others c a.picked a.range) P.most X)

    tuple_T : tuple_at T y ≡ Inner w2 ns2
    tuple_T = ap (λ (Z : Sheets). tuple_of Z y) sheets_T ∙ y_now m t1 b x p i w w2 ns ns2 wp nsp can

    count_T : length T.pages ≡ length t1.pages
    count_T = ap (λ (Z : Sheets). length Z.sheets) sheets_T ∙ count_now m t1 b x p i w w2 ns ns2 wp nsp can

    inner : IsAtInner T (At y)
    inner = (P.from, (let c = count_T in let k = P.there in omega arith), ap kind_of tuple_T)

    led : IsLink T p i y
    led = (
      (let c = count_T in let k = P.least in let h = hung.above.1 in omega arith),
      (wp, set nsp i (Some y), ap (λ (Z : Sheets). tuple_of Z p) sheets_T ∙ p_now m t1 b x p i w w2 ns ns2 wp nsp can, leads_now m t1 b x p i w w2 ns ns2 wp nsp can),
    )

    ticks : IsTicked t T
    ticks = record {
      latches = P.latches;
      clock = ap (λ n. n + 1) P.clock;
      counter = P.counter;
      limit = P.limit;
      roots = λ c h. ap (λ (Z : Sheets). (sheet_at Z c).inner) sheets_T ∙ kinds_now m t1 b x p i w w2 ns ns2 wp nsp can c
          ∙ ap (λ (s : Sheet). s.inner) (page.others c (λ e. let k = P.from in absurd (omega arith)) (inl (let k = H.pages.count in omega arith)));
    }

    fit : (key : Option Key) → IsCarried m S d key → FitAt (class_of m) (spots S) (Some key) x d.recon
    fit key C = subst (λ (z : Place). FitAt (class_of m) (spots S) (Some key) z d.recon) (high_spot x high) (standing.fit m adds codes t d at label H A main K W key C)

    carries : (key : Option Key) → IsCarried m S d key → IsCarried m (sheets_of T) (with_node (placed d (At y) d.parent)) key
    carries key C =
        let N : IsComing m (spots (sheets_of T)) (moved x y x) d.recon (carried d) key = leaves_coming m S (sheets_of T) bs node_cost 0 (moved x y) x d.recon (carried d) key leaves (record { fresh = C.fresh; fits = fit key C; rebuilt = C.rebuilt }) in
        record {
          of = record { start = C.of.start; whole = C.of.whole; gives = C.of.gives };
          begins = λ e. cc;
          fresh = N.fresh;
          rest = C.rest;
          rebuilt = C.rebuilt;
          way = subst (λ (z : Place). FitAt (class_of m) (spots (sheets_of T)) (Some key) z d.recon) (moved_here x y x refl) N.fits;
        }

    -- the node put in leads nowhere, and the one inner tuple that is made is the longer one
    nowhere : link_of T y at ≡ None
    nowhere = ap (λ (v : Tuple). get_or (links v) at None) tuple_T ∙ get_or-insert_at ns at None None (standing.place_within m adds codes t d at label H A main K W)

    makes : MakesOne t T y
    makes z n e = makes_same t t1 P.tuples z (makes_one m t1 b x p i w w2 ns ns2 wp nsp can bs z n e)

    same_parity : y.block % 3 ≡ x.block % 3
    same_parity = P.parity

    widens : Widens m t T d (with_node (placed d (At y) d.parent)) at label (moved x y)
    widens = record { leaves = leaves; inner = inner; frame = ap frame_in tuple_T; nowhere = nowhere; carries = carries }

    pub moved_there : (FitsWider t d at label → ⊥) → (t2 : Table) (d2 : Descending Recon) (to : Place) → to ≡ y → t2 ≡ T → d2 ≡ with_node (placed d (At to) d.parent) → IsNodeAdded m t t2 d d2 at label
    moved_there wide t2 d2 to e et ed =
        subst (λ (u : Table). IsNodeAdded m t u d d2 at label) (sym et)
        (subst (λ (z : Descending Recon). IsNodeAdded m t T d z at label) (sym (ed ∙ ap (λ (z : Place). with_node (placed d (At z) d.parent)) e))
        (inr (wide, y, refl, ticks, makes, same_parity, subst (λ (q : Option (Place × ℕ)). IsLedTo T q y) (sym pa) led, widens)))

    -- ---- the blocks named are those written or added
    abbrev n : ℕ
    n = length t.pages

    at_T : (z : Place) (u v : Tuple) → tuple_of (S2 m t1 b x p i w w2 ns ns2 wp nsp can) z ≡ u → tuple_at t z ≡ v → (u ≡ v → ⊥) → IsWritten S (sheets_of T) z.block
    at_T z u v e f k = written_at S (sheets_of T) z (λ q. k (sym (ap (λ (Z : Sheets). tuple_of Z z) sheets_T ∙ e) ∙ q ∙ f))

    x_written : IsWritten S (sheets_of T) x.block
    x_written = at_T x (Redirect y t1.clock) (Inner w ns) (x_now m t1 b x p i w w2 ns ns2 wp nsp can) (standing.is m adds codes t d at label H A main K W) (λ q. cc)

    p_written : IsWritten S (sheets_of T) p.block
    p_written = at_T p (Inner wp (set nsp i (Some y))) (Inner wp nsp) (p_now m t1 b x p i w w2 ns ns2 wp nsp can) above_is.0
        (λ q. let c : set nsp i (Some y) ≡ nsp = ap links q in
        let e : Some y ≡ Some x = sym (leads_now m t1 b x p i w w2 ns ns2 wp nsp can) ∙ ap (λ gs. get_or gs i None) c ∙ above_is.1 in
        let f : y ≡ x = cc in apart (ap (λ (z : Place). z.block) (sym f)))

    y_written : IsWritten S (sheets_of T) b
    y_written = at_T y (Inner w2 ns2) Placeholder (y_now m t1 b x p i w w2 ns ns2 wp nsp can) (sym (same_tuple y) ∙ free_place_free (tuples_at t1 b)) (λ q. cc)

    abbrev front : List ℕ
    front = (x.block ∷ []) ++ another p.block x.block n

    each_written : (c : ℕ) → IsAmong c (front ++ another b p.block n) → (c < n) × IsWritten S (sheets_of T) c
    each_written c a = ⊎_elim
        (λ f. ⊎_elim (λ e. here c e) (λ g. let (e, k, l) = another_is c p.block x.block n g in (omega arith, subst (IsWritten S (sheets_of T)) (sym e) p_written)) (among_cases c (x.block ∷ []) (another p.block x.block n) f))
        (λ g. let (e, k, l) = another_is c b p.block n g in (omega arith, subst (IsWritten S (sheets_of T)) (sym e) y_written)) (among_cases c front (another b p.block n) a)
      where
        here : (c : ℕ) → IsAmong c (x.block ∷ []) → (c < n) × IsWritten S (sheets_of T) c
        here c (inl e) = let h = hung.here.1 in (omega arith, subst (IsWritten S (sheets_of T)) (sym e) x_written)
        here c (inr j) = absurd j

    once : AreOnce (front ++ another b p.block n)
    once = once_both front (another b p.block n) (once_both (x.block ∷ []) (another p.block x.block n) ((λ j. j), tt) (another_once p.block x.block n) (λ e j g. first e j (another_is e p.block x.block n g))) (another_once b p.block n)
        (λ e f g. ⊎_elim (λ j. second e j (another_is e b p.block n g)) (λ j. let (r, k, l) = another_is e b p.block n g in k (sym r ∙ (another_is e p.block x.block n j).0)) (among_cases e (x.block ∷ []) (another p.block x.block n) f))
      where
        first : (e : ℕ) → IsAmong e (x.block ∷ []) → (e ≡ p.block) × (p.block ≡ x.block → ⊥) × (p.block < n) → ⊥
        first e (inl q) (r, k, l) = k (sym r ∙ q)
        first e (inr j) r = j

        second : (e : ℕ) → IsAmong e (x.block ∷ []) → (e ≡ b) × (b ≡ p.block → ⊥) × (b < n) → ⊥
        second e (inl q) (r, k, l) = apart (sym q ∙ r)
        second e (inr j) r = j

    pub exact_there : (t2 : Table) → t2 ≡ T → IsExact S (sheets_of t2) t2.touched
    exact_there t2 et = subst (λ (z : Table). IsExact S (sheets_of z) z.touched) (sym et) (exact_range S (sheets_of T) (front ++ another b p.block n) n (length t1.pages) refl (sym count_T) P.least once each_written)

  -- the tuple has gone to a picked page
  pub shifted_out : (FitsWider t d at label → ⊥) → (t2 : Table) (d2 : Descending Recon) (u : Tuple) (seat : ℕ) (to : Place) → IsShiftedFrom t t2 d u seat to → u ≡ widened (tuple_at t x) at label → d2 ≡ with_node (placed d (At to) d.parent) → IsNodeAdded m t t2 d d2 at label
  shifted_out wide t2 d2 u seat to R eu ed = go d.stand d.parent refl refl R
    where
      go : (st : Stand) (pa : Option (Place × ℕ)) → d.stand ≡ st → d.parent ≡ pa → IsShiftedAt t t2 d st pa u seat to → IsNodeAdded m t t2 d d2 at label
      go Start pa eq ep r = absurd r
      go (Root b) pa eq ep r = absurd r
      go (At z) None eq ep r = absurd r
      go (At z) (Some (p, i)) eq ep r =
          let ex : x ≡ z = ap tuple_place eq in
          let a : IsInnerOf t (in_nulls d) (At z) (Some (p, i)) = subst (λ (q : Option (Place × ℕ)). IsInnerOf t (in_nulls d) (At z) q) ep (subst (λ (s : Stand). IsInnerOf t (in_nulls d) s d.parent) eq A) in
          let high : 3 ≤ x.block = subst (λ (v : Place). 3 ≤ v.block) (sym ex) a.0.0 in
          let hung : IsHung t x p i = subst (λ (v : Place). IsHung t v p i) (sym ex) (standing.hung_at m t H (in_nulls d) d.stand d.parent z p i eq ep A) in
          let link : IsLink t p i x = subst (λ (v : Place). IsLink t p i v) (sym ex) a.2 in
          let s : IsShifted t t2 (in_nulls d) x p i (widened (tuple_at t x) at label) seat to = subst (λ (v : Tuple). IsShifted t t2 (in_nulls d) x p i v seat to) eu (subst (λ (v : Place). IsShifted t t2 (in_nulls d) v p i u seat to) (sym ex) r) in
          moved_there p i ep high hung link s.picked s.block seat s.picks s.is_picked wide t2 d2 to s.at s.after ed
      go Empty pa eq ep r = absurd r

  pub exact_out : (t2 : Table) (u : Tuple) (seat : ℕ) (to : Place) → IsShiftedFrom t t2 d u seat to → u ≡ widened (tuple_at t x) at label → IsExact S (sheets_of t2) t2.touched
  exact_out t2 u seat to R eu = go d.stand d.parent refl refl R
    where
      go : (st : Stand) (pa : Option (Place × ℕ)) → d.stand ≡ st → d.parent ≡ pa → IsShiftedAt t t2 d st pa u seat to → IsExact S (sheets_of t2) t2.touched
      go Start pa eq ep r = absurd r
      go (Root b) pa eq ep r = absurd r
      go (At z) None eq ep r = absurd r
      go (At z) (Some (p, i)) eq ep r =
          let ex : x ≡ z = ap tuple_place eq in
          let a : IsInnerOf t (in_nulls d) (At z) (Some (p, i)) = subst (λ (q : Option (Place × ℕ)). IsInnerOf t (in_nulls d) (At z) q) ep (subst (λ (s : Stand). IsInnerOf t (in_nulls d) s d.parent) eq A) in
          let high : 3 ≤ x.block = subst (λ (v : Place). 3 ≤ v.block) (sym ex) a.0.0 in
          let hung : IsHung t x p i = subst (λ (v : Place). IsHung t v p i) (sym ex) (standing.hung_at m t H (in_nulls d) d.stand d.parent z p i eq ep A) in
          let link : IsLink t p i x = subst (λ (v : Place). IsLink t p i v) (sym ex) a.2 in
          let s : IsShifted t t2 (in_nulls d) x p i (widened (tuple_at t x) at label) seat to = subst (λ (v : Tuple). IsShifted t t2 (in_nulls d) x p i v seat to) eu (subst (λ (v : Place). IsShifted t t2 (in_nulls d) v p i u seat to) (sym ex) r) in
          exact_there p i ep high hung link s.picked s.block seat s.picks s.is_picked t2 s.after
      go Empty pa eq ep r = absurd r
