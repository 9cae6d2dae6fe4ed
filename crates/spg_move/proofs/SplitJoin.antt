-- The split of an inner tuple as the insert and its callers see it.
use Rattle.std.proofs.lemmas.List.{length-replicate}
use Rattle.std.proofs.Common.{◌≡◌, ℕ, ◌+◌, ◌≤◌, ◌<◌, ℤ, Bool, true, false, List, [], ◌∷◌, ◌++◌, ⊎_elim, Option, Some, None, get_or, length, refl, sym, ap, ◌∙◌, subst, inl, inr, arith}
use Rattle.spg_base.specs.Row.{RowAt}
use Rattle.spg_opclass.specs.Meaning.{Meaning, upper, lower}
use Rattle.spg_opclass.specs.Laws.{SplitLaw, CodeLaw, inner_size}
use Rattle.spg_opclass.specs.declared.view.Choice.TheVariants.{Split}
use Rattle.spg_forest.specs.View.{Place}
use Rattle.spg_forest.specs.Spot.{Frame, Spot, Branch, child_of}
use Rattle.spg_forest.specs.Tuples.{Tuple, Inner, Placeholder, IsAmong}
use Rattle.spg_forest.specs.Links.{IsTarget}
use Rattle.spg_forest.specs.Exact.{IsWritten, AreOnce, IsExact}
use Rattle.spg_forest.proofs.Exact.{written_at, among_cases, once_both, exact_range}
use Rattle.spg_forest.proofs.Stock.{tuple_is as stock_tuple}
use Rattle.spg_forest.specs.Pages.{tuple_on}
use Rattle.spg_forest.specs.Classes.{class_of, HasEntry, HasRecon}
use Rattle.spg_forest.specs.Sheets.{Sheet, Sheets, sheet_at, size_of, links}
use Rattle.spg_forest.specs.Shape.{Shape, spots}
use Rattle.spg_forest.specs.Section.{Leaves, Cost}
use Rattle.spg_forest.specs.Edits.{tuple_of, spot_of}
use Rattle.spg_forest.proofs.Changes.{splits_tuple}
use Rattle.spg_forest.proofs.Follows.{split_parts}
use Rattle.spg_forest.proofs.Forest.{no_circle}
use Rattle.spg_forest.proofs.Keeping.{entry_of, no_entry}
use Rattle.spg_forest.proofs.Picks.{picked_shape, picked_spots, leaves_after_pick}
use Rattle.spg_forest.proofs.Sections.{shape_tree, shape_shown}
use Rattle.spg_forest.proofs.Writes.{high_spot, inner_at}
use Rattle.spg_page.specs.Kinds.{IsOffset, IsInner}
use Rattle.spg_page.specs.Reads.{frame_in}
use Rattle.spg_tree.specs.Table.{Table, sheets_of, tuples_at, tuple_at, latch_at}
use Rattle.spg_tree.specs.Table as table
use Rattle.spg_tree.specs.Pick.{IsFull}
use Rattle.spg_tree.specs.Descents.{Descending, in_nulls, risen}
use Rattle.spg_tree.specs.declared.stand.Stand.{Stand}
use Rattle.spg_tree.specs.declared.stand.Stand.TheVariants.{Start, Root, At, Empty}
use Rattle.spg_descend.specs.Carried.{IsCarried, WayFits}
use Rattle.spg_descend.specs.Follows.{IsAtInner, tuple_place, link_of}
use Rattle.spg_descend.specs.Makes.{MakesOne}
use Rattle.spg_descend.proofs.Makes.{makes_same}
use Rattle.spg_descend.proofs.NotFull.{picks_not_full}
use Rattle.spg_descend.specs.Puts.{IsQuiet}
use Rattle.spg_tree.specs.Another.{another}
use Rattle.spg_descend.specs.BareNodes.{bare}
use Rattle.spg_tree.proofs.Among.{another_is, another_once}
use Rattle.spg_descend.specs.Answers.{IsAnswered}
use Rattle.spg_move.specs.Answers.{IsInnerOf}
use Rattle.spg_move.specs.Splits.{PartsTuple, split_cost, lower_want_at, fits_beside_at}
use Rattle.spg_move.specs.Splitting.{lower_want, fits_beside, split_touched, IsHome, MayPart, IsParted}
use Rattle.spg_move.proofs.SplitHomes.{IsHoused, housed, IsAway, away, touched_few}
use Rattle.spg_move.proofs.SplitLaw.{IsDivision}
use Rattle.spg_move.proofs.SplitLaw as law
use Rattle.spg_move.proofs.SplitStanding as standing

-- what is no place is none
none_else : (o : Option Place) → ((z : Place) → o ≡ Some z → ⊥) → o ≡ None
none_else None k = refl
none_else (Some z) k = absurd (k z refl)

module _ {Key Recon Cond : Type 0} (m : Meaning Key Recon Cond) (t : Table) (H : Shape m (sheets_of t)) (splits : SplitLaw m) (codes : CodeLaw m) (d : Descending Recon) (c : ℕ) (pre low : List ℕ) (labels : List ℤ) (I : IsInnerOf t (in_nulls d) d.stand d.parent) (N : in_nulls d ≡ false)
    (K : (key : Option Key) × IsCarried m (sheets_of t) d key) (A : IsAnswered m t d (Split pre labels c low)) where
  abbrev x : Place
  x = standing.x m t H splits codes d c pre low labels I N K A

  abbrev w : Frame
  w = standing.w m t H splits codes d c pre low labels I N K A

  abbrev ns : List (Option Place)
  ns = standing.ns m t H splits codes d c pre low labels I N K A

  abbrev up : Tuple
  up = standing.up m t H splits codes d c pre low labels I N K A

  abbrev lo : Tuple
  lo = standing.lo m t H splits codes d c pre low labels I N K A

  abbrev S : Sheets
  S = sheets_of t

  module _ (t2 : Table) (seat : ℕ) (P : IsParted t t2 x c seat up lo) where
    abbrev u : Table
    u = P.housed

    abbrev h : ℕ
    h = P.home

    abbrev T : List ℕ
    T = split_touched x.block h (length t.pages) (length u.pages)

    abbrev S1 : Sheets
    S1 = sheets_of u

    HH : IsHoused t u x up h (size_of lo + 4)
    HH = housed t x up lo H.pages.count (standing.may_part m t H splits codes d c pre low labels I N K A) (standing.x_kind m t H splits codes d c pre low labels I N K A).0 u h seat P.goes

    at_x : tuple_at u x ≡ Inner w ns
    at_x = ap (λ (s : Sheet). tuple_on s.tuples x.offset) HH.here ∙ standing.at_x m t H splits codes d c pre low labels I N K A

    es : spots S1 ≡ spots S
    es = picked_spots m S S1 HH.pages H

    D : IsDivision m u x c h w ns pre low labels
    D = let can = standing.can m t H splits codes d c pre low labels I N K A in
        let split = standing.split m t H splits codes d c pre low labels I N K A in
        record {
          shape = picked_shape m S S1 HH.pages H;
          can = record { block = let b = can.block in let k = HH.pages.count in omega arith; positive = can.positive; within = let k = can.within in let e = ap (λ (s : Sheet). length s.tuples) HH.here in omega arith };
          at_x = at_x;
          from = HH.from;
          there = HH.there;
          kind = HH.kind;
          tree = HH.tree ∙ sym (ap (λ (s : Sheet). s.nulls) HH.here);
          main = ap (λ (s : Sheet). s.nulls) HH.here ∙ standing.main m t H splits codes d c pre low labels I N K A;
          shorter = standing.shorter m t H splits codes d c pre low labels I N K A;
          room = HH.room;
          node = split.child_there;
          upper_tuple = split.upper_well_formed;
          lower_tuple = split.lower_well_formed;
        }

    abbrev Sc : Sheets
    Sc = law.Sc m u x c h w ns pre low labels D

    abbrev y : Place
    y = law.y m u x c h w ns pre low labels D

    abbrev us : List (Option Place)
    us = law.us m u x c h w ns pre low labels D

    abbrev cost : Cost
    cost = record { pages = 0; ticks = 0; spread = 1 }

    apart : (e : ℕ) → (IsAmong e T → ⊥) → IsAway x.block h (length t.pages) (length u.pages) e
    apart e k = away x.block h (length t.pages) (length u.pages) e HH.pages.count HH.there k

    after_is : sheets_of t2 ≡ Sc
    after_is = ap sheets_of P.after ∙ law.is_put m u x c h w ns pre low labels D

    touched_is : t2.touched ≡ T
    touched_is = ap (λ (z : Table). z.touched) P.after

    has_recon : HasRecon m (spots S1) (spot_of x) (Some (standing.recon m t H splits codes d c pre low labels I N K A))
    has_recon = subst (λ (V : Place → Spot). HasRecon m V (spot_of x) (Some (standing.recon m t H splits codes d c pre low labels I N K A))) (sym es) (standing.has_recon m t H splits codes d c pre low labels I N K A)

    leaves : Leaves m S (sheets_of t2) t2.touched split_cost 0 (λ z. z)
    leaves =
        let (key, e) = standing.rebuilt m t H splits codes d c pre low labels I N K A in
        let G = split_parts m splits S1 (spot_of x) y w ns us (standing.recon m t H splits codes d c pre low labels I N K A) d.rest pre low labels c key D.shape (law.at_q m u x c h w ns pre low labels D) (standing.each m t H splits codes d c pre low labels I N K A)
        has_recon (standing.w_tuple m t H splits codes d c pre low labels I N K A) e (standing.answer m t H splits codes d c pre low labels I N K A) (law.y_free m u x c h w ns pre low labels D) (law.us_child m u x c h w ns pre low labels D) (law.us_alone m u x c h w ns pre low labels D) in
        let B = law.becomes m u x c h w ns pre low labels D T (touched_few x.block h (length t.pages) (length u.pages) HH.more) (λ e k. let Z = apart e k in (Z.upper, Z.home)) in
        let V2 = law.V2 m u x c h w ns pre low labels D in
        let X = splits_tuple m S1 Sc T cost (spot_of x) y w (upper pre labels) (lower w low) ns us c D.shape G B in
        let X3 = leaves_after_pick m S S1 Sc T cost 3 0 (λ z. z) H HH.pages (λ e k. let Z = apart e k in HH.others e Z.home Z.range) HH.more X in
        subst (λ (Z : Sheets). Leaves m S Z t2.touched split_cost 0 (λ z. z)) (sym after_is) (subst (λ (Z : List ℕ). Leaves m S Sc Z split_cost 0 (λ z. z)) (sym touched_is) X3)

    -- ---- the insert at the upper tuple
    pages_after : length t2.pages ≡ length u.pages
    pages_after = ap (λ (Z : Sheets). length Z.sheets) after_is ∙ law.count_c m u x c h w ns pre low labels D

    x_after : tuple_at t2 x ≡ Inner (upper pre labels) us
    x_after = ap (λ (Z : Sheets). tuple_of Z x) after_is ∙ law.x_c m u x c h w ns pre low labels D

    inner_now : IsAtInner t2 d.stand
    inner_now =
        let a = standing.at_inner m t H splits codes d c pre low labels I N K A in
        let b = a.1 in let k = HH.pages.count in let p = pages_after in
        (a.0, omega arith, subst IsInner (sym x_after) refl)

    -- the tuple above is another one
    above : (p : Place) (i : ℕ) (f : Frame) (ks : List (Option Place)) → 3 ≤ x.block → tuple_at t p ≡ Inner f ks → get_or ks i None ≡ Some x → p ≡ x → ⊥
    above p i f ks high e l q =
        let a : Inner f ks ≡ Inner w ns = sym e ∙ ap (tuple_at t) q ∙ standing.at_x m t H splits codes d c pre low labels I N K A in
        let b : ks ≡ ns = cc in
        let s : spots S x ≡ Branch w ns = ap (spots S) (sym (high_spot x high)) ∙ (inner_at S (spots S) x w ns (shape_shown m S H) (standing.can m t H splits codes d c pre low labels I N K A) (standing.at_x m t H splits codes d c pre low labels I N K A)).shown in
        no_circle (class_of m) (spots S) S.clock (shape_tree m S H) x x i [] (ap (λ (z : Spot). child_of z i) s ∙ ap (λ zs. get_or zs i None) (sym b) ∙ l) refl

    link_now : IsInnerOf t2 (in_nulls d) d.stand d.parent
    link_now = go d.stand d.parent refl I inner_now
      where
        go : (st : Stand) (pr : Option (Place × ℕ)) → d.stand ≡ st → IsInnerOf t (in_nulls d) st pr → IsAtInner t2 st → IsInnerOf t2 (in_nulls d) st pr
        go Start pr e a J = absurd a
        go (Root b) pr e (a, k) J = (a, J)
        go (At z) None e a J = absurd a
        go (At z) (Some (p, i)) e (a, n, (pb, (f, ks, ep, el))) J =
            let ex : x ≡ z = ap tuple_place e in
            let high : 3 ≤ x.block = let g = a.0 in let q = ap (λ (o : Place). o.block) ex in omega arith in
            let ne : p ≡ x → ⊥ = above p i f ks high ep (el ∙ ap Some (sym ex)) in
            let eu : tuple_at u p ≡ Inner f ks = ap (λ (zs : List Tuple). tuple_on zs p.offset) (HH.tuples p.block) ∙ ep in
            let k = HH.pages.count in let q = pages_after in (
              J,
              ap (λ (Z : Sheets). (sheet_at Z z.block).nulls) after_is ∙ (law.kinds m u x c h w ns pre low labels D z.block).1 ∙ ap (λ (o : Place). (sheet_at S1 o.block).nulls) (sym ex) ∙ ap (λ (s : Sheet). s.nulls) HH.here ∙ ap (λ (o : Place). (sheet_at S o.block).nulls) ex ∙ n,
              (omega arith, (f, ks, ap (λ (Z : Sheets). tuple_of Z p) after_is ∙ law.kept m u x c h w ns pre low labels D p f ks eu ne, el)),
            )
        go Empty pr e a J = absurd a

    way_now : (key : Option Key) → IsCarried m S d key → WayFits m (sheets_of t2) d.stand d.parent d.recon key
    way_now key C = go d.stand d.parent I C.way
      where
        go : (st : Stand) (pr : Option (Place × ℕ)) → IsInnerOf t (in_nulls d) st pr → WayFits m S st pr d.recon key → WayFits m (sheets_of t2) st pr d.recon key
        go Start pr a k = tt
        go (Root b) pr a k = k
        go (At z) pr a k = leaves.section.fits z d.recon (Some key) k
        go Empty pr a k = absurd a

    carries : (key : Option Key) → IsCarried m S d key → IsCarried m (sheets_of t2) (risen d) key
    carries key C = record {
      of = record { start = C.of.start; whole = C.of.whole; gives = C.of.gives };
      begins = C.begins;
      fresh = λ z l a e. let (k, g) = entry_of m (sheets_of t2) z l leaves.section.shape a in no_entry m S d.row k C.fresh (subst (λ (r : RowAt). HasEntry m (spots S) r k) e ((leaves.entries l.row k).0 g));
      rest = C.rest;
      rebuilt = C.rebuilt;
      way = way_now key C;
    }

    -- ---- what else is as it was
    kinds_now : (b : ℕ) → b < 3 → (sheet_at (sheets_of t2) b).inner ≡ (sheet_at S b).inner
    kinds_now b g = ap (λ (Z : Sheets). (sheet_at Z b).inner) after_is ∙ (law.kinds m u x c h w ns pre low labels D b).0 ∙ ⊎_elim (λ e. ap (λ (s : Sheet). s.inner) e) (λ (k, e, f). absurd (omega arith)) (HH.pages.same b)

    quiet : IsQuiet t t2
    quiet = record {
      latches = λ b. ap (λ (v : Table). latch_at v b) P.after ∙ HH.latches b;
      clock = ap (λ (v : Table). v.clock) P.after ∙ HH.clock;
      counter = ap (λ (v : Table). v.counter) P.after ∙ HH.counter;
      limit = ap (λ (v : Table). v.limit) P.after ∙ HH.limit;
      roots = kinds_now;
    }

    -- ---- the inner tuple that is made, and where the nodes lead
    made_now : MakesOne t t2 y
    made_now z n e = makes_same t u HH.tuples z (law.made m u x c h w ns pre low labels D z n (subst (λ (Z : Sheets). IsInner (tuple_of Z z)) after_is e))

    child_now : link_of t2 x c ≡ Some y
    child_now = ap (λ (a : Tuple). get_or (links a) c None) x_after ∙ law.us_child m u x c h w ns pre low labels D

    others_now : (i : ℕ) → (i ≡ c → ⊥) → link_of t2 x i ≡ None
    others_now i n = ap (λ (a : Tuple). get_or (links a) i None) x_after ∙ none_else (get_or us i None) (λ z e. n (law.us_alone m u x c h w ns pre low labels D i z e))

    pub parts : (d2 : Descending Recon) → d2 ≡ risen d → PartsTuple m t t2 d d2 pre labels c
    parts d2 e = subst (λ (z : Descending Recon). PartsTuple m t t2 d z pre labels c) (sym e) (record {
      after = refl;
      quiet = quiet;
      leaves = leaves;
      inner = inner_now;
      frame = ap frame_in x_after;
      lower = (y, child_now, made_now, HH.next);
      others = others_now;
      link = link_now;
      carries = carries;
    })

    -- ---- the blocks named are those written or added
    abbrev n : ℕ
    n = length t.pages

    y_before : tuple_at t y ≡ Placeholder
    y_before = sym (ap (λ (zs : List Tuple). tuple_on zs y.offset) (HH.tuples y.block)) ∙ law.y_was m u x c h w ns pre low labels D

    x_written : IsWritten S (sheets_of t2) x.block
    x_written = written_at S (sheets_of t2) x (λ q.
        let f : tuple_at t x ≡ Inner w ns = standing.at_x m t H splits codes d c pre low labels I N K A in
        let e : Inner (upper pre labels) us ≡ Inner w ns = sym x_after ∙ q ∙ f in
        let g : get_or ns c None ≡ Some y = ap (λ (a : Tuple). get_or (links a) c None) (sym e) ∙ law.us_child m u x c h w ns pre low labels D in
        let k = (H.links.downlink x w ns c y (stock_tuple S x ∙ f) g).1 in
        subst IsTarget (stock_tuple S y ∙ y_before) k)

    y_written : IsWritten S (sheets_of t2) h
    y_written = written_at S (sheets_of t2) y (λ q. let e : Inner (lower w low) ns ≡ Placeholder = sym (law.y_c m u x c h w ns pre low labels D) ∙ sym (ap (λ (Z : Sheets). tuple_of Z y) after_is) ∙ q ∙ y_before in cc)

    each_written : (e : ℕ) → IsAmong e ((x.block ∷ []) ++ another h x.block n) → (e < n) × IsWritten S (sheets_of t2) e
    each_written e a = ⊎_elim (λ i. here e i) (λ i. let (r, k, l) = another_is e h x.block n i in (omega arith, subst (IsWritten S (sheets_of t2)) (sym r) y_written)) (among_cases e (x.block ∷ []) (another h x.block n) a)
      where
        here : (e : ℕ) → IsAmong e (x.block ∷ []) → (e < n) × IsWritten S (sheets_of t2) e
        here e (inl r) = let can = standing.can m t H splits codes d c pre low labels I N K A in let k = can.block in (omega arith, subst (IsWritten S (sheets_of t2)) (sym r) x_written)
        here e (inr i) = absurd i

    once : AreOnce ((x.block ∷ []) ++ another h x.block n)
    once = once_both (x.block ∷ []) (another h x.block n) ((λ i. i), tt) (another_once h x.block n) (λ e i j. first e i (another_is e h x.block n j))
      where
        first : (e : ℕ) → IsAmong e (x.block ∷ []) → (e ≡ h) × (h ≡ x.block → ⊥) × (h < n) → ⊥
        first e (inl q) (r, k, l) = k (sym r ∙ q)
        first e (inr i) r = i

    pub exact : IsExact S (sheets_of t2) t2.touched
    exact = subst (λ (zs : List ℕ). IsExact S (sheets_of t2) zs) (sym touched_is) (exact_range S (sheets_of t2) ((x.block ∷ []) ++ another h x.block n) n (length u.pages) refl (sym pages_after) HH.pages.count once each_written)

  -- ---- what the code has: the place, its page, and the two tuples
  module _ (at : Place) (page : Sheet) (place_is : at ≡ x) (page_is : page ≡ table.sheet_at t at.block) where
    tuple_is : tuple_on page.tuples at.offset ≡ tuple_at t x
    tuple_is = ap (λ (s : Sheet). tuple_on s.tuples at.offset) page_is ∙ ap (tuple_at t) place_is

    pub within_page : IsOffset page.tuples at.offset
    within_page = subst (λ (s : Sheet). IsOffset s.tuples at.offset) (sym page_is) (subst (λ (o : Place). IsOffset (tuples_at t o.block) o.offset) (sym place_is) (standing.within m t H splits codes d c pre low labels I N K A))

    pub inner_page : IsInner (tuple_on page.tuples at.offset)
    inner_page = subst IsInner (sym tuple_is) (standing.at_inner m t H splits codes d c pre low labels I N K A).2

    pub small_page : inner_size (lower (frame_in (tuple_on page.tuples at.offset)) low) ≤ 8156
    small_page = subst (λ (z : Tuple). inner_size (lower (frame_in z) low) ≤ 8156) (sym tuple_is) (standing.lower_small m t H splits codes d c pre low labels I N K A)

    module _ (a b : Tuple) (upper_is : a ≡ up) (lower_is : b ≡ Inner (lower (frame_in (tuple_on page.tuples at.offset)) low) (links (tuple_on page.tuples at.offset))) where
      pub may_part : MayPart t at a
      may_part = subst (λ (o : Place). MayPart t o a) (sym place_is) (subst (λ (z : Tuple). MayPart t x z) (sym upper_is) (standing.may_part m t H splits codes d c pre low labels I N K A))

      pub child_node : c < length (links a)
      child_node =
          let e = ap (λ (z : Tuple). length (links z)) upper_is in
          let l : length (bare (length labels)) ≡ length labels = length-replicate (length labels) None in
          let k = (standing.split m t H splits codes d c pre low labels I N K A).child_there in omega arith

      lower_same : b ≡ lo
      lower_same = lower_is ∙ ap (λ (z : Tuple). Inner (lower (frame_in z) low) (links z)) tuple_is

      pub want_is : (seat : ℕ) → lower_want (table.sheet_at t at.block).nulls at.block b seat ≡ lower_want_at t d low seat
      want_is seat = ap (λ (z : Tuple). lower_want (table.sheet_at t at.block).nulls at.block z seat) lower_same ∙ ap (λ (o : Place). lower_want (table.sheet_at t o.block).nulls o.block lo seat) place_is
          ∙ ap (λ (n : Bool). lower_want n x.block lo seat) (standing.main m t H splits codes d c pre low labels I N K A ∙ sym N)

      pub beside_is : fits_beside t at a b ≡ fits_beside_at t d pre labels low
      beside_is = ap (λ (z : Tuple). fits_beside t at a z) lower_same ∙ ap (λ (z : Tuple). fits_beside t at z lo) upper_is ∙ ap (λ (o : Place). fits_beside t o up lo) place_is

      pub parts_of : (t2 : Table) (seat : ℕ) (d2 : Descending Recon) → IsParted t t2 at c seat a b → d2 ≡ risen d → PartsTuple m t t2 d d2 pre labels c
      parts_of t2 seat d2 P e = parts t2 seat (subst (λ (o : Place). IsParted t t2 o c seat up lo) place_is (subst (λ (z : Tuple). IsParted t t2 at c seat z lo) upper_is (subst (λ (z : Tuple). IsParted t t2 at c seat a z) lower_same P))) d2 e

      -- the whole table
      pub table_of : (t2 : Table) (seat : ℕ) → IsParted t t2 at c seat a b → IsParted t t2 (tuple_place d.stand) c seat up lo
      table_of t2 seat P = subst (λ (o : Place). IsParted t t2 o c seat up lo) place_is (subst (λ (z : Tuple). IsParted t t2 at c seat z lo) upper_is (subst (λ (z : Tuple). IsParted t t2 at c seat a z) lower_same P))

      pub exact_of : (t2 : Table) (seat : ℕ) → IsParted t t2 at c seat a b → IsExact (sheets_of t) (sheets_of t2) t2.touched
      exact_of t2 seat P = exact t2 seat (table_of t2 seat P)

      -- where a page is picked, the pick is not full
      pub not_full_of : (t2 : Table) (seat : ℕ) → IsParted t t2 at c seat a b → fits_beside_at t d pre labels low ≡ false → IsFull t (lower_want_at t d low seat) → ⊥
      not_full_of t2 seat P n F = go (fits_beside t at a b) (beside_is ∙ n) P.goes
        where
          go : (y : Bool) → y ≡ false → IsHome y t P.housed at b P.home seat → ⊥
          go true e h = cc
          go false e (Q, k) = picks_not_full t (lower_want (table.sheet_at t at.block).nulls at.block b seat) P.home P.housed Q (subst (IsFull t) (sym (want_is seat)) F)
