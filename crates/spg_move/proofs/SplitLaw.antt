-- The pages once an inner tuple has become an upper and a lower one, and the law of that.
use Rattle.std.proofs.Common.{◌≡◌, ℕ, zero, suc, ◌+◌, ◌*◌, ◌≤◌, ◌<◌, ℤ, Bool, true, false, List, ⊎_elim, Option, Some, None, get_or, set, length, length-set, refl, sym, ap, ◌∙◌, subst, inl, inr, arith}
use mathlib.Core.Path.{fun_ext}
use Rattle.std.proofs.lemmas.Bool.{cases_eq}
use Rattle.std.proofs.lemmas.List.{length-replicate, get_or-set_same, get_or-set_other}
use Rattle.spg_opclass.specs.Meaning.{Meaning, is_tuple, upper, lower}
use Rattle.spg_opclass.specs.Laws.{padded_length}
use Rattle.spg_forest.specs.View.{Place}
use Rattle.spg_forest.specs.Spot.{Frame, Spot, Branch, Nothing, put_at}
use Rattle.spg_forest.specs.Tuples.{Tuple, Inner, Live, Placeholder, IsAmong}
use Rattle.spg_forest.specs.Pages.{place, tuple_on, with_tuple, IsShown}
use Rattle.spg_forest.specs.Sheets.{Sheets, sheet_at, with_tuples, pages_of, weight, size_of, free_place, linked}
use Rattle.spg_forest.specs.Shape.{Shape, spots, AreNodes, IsKindOf, IsTupleOf}
use Rattle.spg_forest.specs.Section.{Cost}
use Rattle.spg_forest.specs.Walk.{spread, spread_at, is_live}
use Rattle.spg_forest.specs.Edits.{tuple_of, put, CanPut, MayStand, AreChanged, spot_of}
use Rattle.spg_forest.specs.Changes.{Becomes}
use Rattle.spg_forest.proofs.Edits.{sheet_laid, tuple_put, write_shown}
use Rattle.spg_forest.proofs.Front.{nothing_at}
use Rattle.spg_forest.proofs.Joins.{put_inner, put_other, can_put_after, weight_replaced, stands_within}
use Rattle.spg_forest.proofs.Sections.{shape_shown}
use Rattle.spg_forest.proofs.Spots.{put_at_same, put_at_other, cases_place}
use Rattle.spg_forest.proofs.Stock.{tuple_is, changed_none, changed_put, pages_kept, spread_put}
use Rattle.spg_forest.proofs.Writes.{inner_at}
use Rattle.spg_page.specs.Changes.{room_of}
use Rattle.spg_page.specs.Kinds.{IsInner}
use Rattle.spg_page.proofs.SheetFacts.{free_place_free, free_place_length, added_fits}
use Rattle.spg_tree.specs.Table.{Table, sheets_of, tuples_at, tuple_at}
use Rattle.spg_descend.specs.BareNodes.{bare}
use Rattle.spg_move.specs.Splitting.{upper_table, parted_table}

-- of two writes at one place the second stands, also where another place is written between them
written_twice : {S : Type 0} (V : Place → S) (x y : Place) (a b c : S) → (y ≡ x → ⊥) → put_at (put_at (put_at V x a) y b) x c ≡ put_at (put_at V x c) y b
written_twice {S} V x y a b c n = fun_ext (λ k. ⊎_elim
    (λ e. put_at_same (put_at (put_at V x a) y b) x c k e ∙ sym (put_at_other (put_at V x c) y b k (λ q. n (sym q ∙ e)) ∙ put_at_same V x c k e))
    (λ m. put_at_other (put_at (put_at V x a) y b) x c k m ∙ ⊎_elim
    (λ e. put_at_same (put_at V x a) y b k e ∙ sym (put_at_same (put_at V x c) y b k e))
    (λ q. put_at_other (put_at V x a) y b k q ∙ put_at_other V x a k m ∙ sym (put_at_other (put_at V x c) y b k q ∙ put_at_other V x c k m)) (cases_place k y)) (cases_place k x))

pub bare_at : (n i : ℕ) (y : Place) → get_or (bare n) i None ≡ Some y → ⊥
bare_at zero i y e = cc
bare_at (suc n) zero y e = cc
bare_at (suc n) (suc i) y e = bare_at n i y e

-- what is known where the inner tuple at x is split: the lower tuple goes to block h
pub record IsDivision {Key Recon Cond : Type 0} (m : Meaning Key Recon Cond) (u : Table) (x : Place) (c h : ℕ) (w : Frame) (ns : List (Option Place)) (pre low : List ℕ) (labels : List ℤ) : Type 0 where
  pub shape : Shape m (sheets_of u)
  pub can : CanPut (sheets_of u) x
  pub at_x : tuple_at u x ≡ Inner w ns
  pub from : 3 ≤ h
  pub there : h < length u.pages
  pub kind : (sheet_at (sheets_of u) h).inner ≡ true
  pub tree : (sheet_at (sheets_of u) h).nulls ≡ (sheet_at (sheets_of u) x.block).nulls
  pub main : (sheet_at (sheets_of u) x.block).nulls ≡ false
  pub shorter : size_of (Inner (upper pre labels) (bare (length labels))) ≤ size_of (Inner w ns)
  pub room : size_of (Inner (lower w low) ns) + 4 ≤ room_of (tuples_at (upper_table u x (Inner (upper pre labels) (bare (length labels)))) h) 1
  pub node : c < length labels
  pub upper_tuple : is_tuple m (upper pre labels) ≡ true
  pub lower_tuple : is_tuple m (lower w low) ≡ true

module _ {Key Recon Cond : Type 0} (m : Meaning Key Recon Cond) (u : Table) (x : Place) (c h : ℕ) (w : Frame) (ns : List (Option Place)) (pre low : List ℕ) (labels : List ℤ) (D : IsDivision m u x c h w ns pre low labels) where
  abbrev S : Sheets
  S = sheets_of u

  abbrev V : Place → Spot
  V = spots S

  abbrev q : Place
  q = spot_of x

  abbrev v : Frame
  v = upper pre labels

  abbrev lo : Frame
  lo = lower w low

  abbrev bs : List (Option Place)
  bs = bare (length labels)

  abbrev pub Sa : Sheets
  Sa = put S x (Inner v bs)

  abbrev ts : List Tuple
  ts = (sheet_at Sa h).tuples

  abbrev pub y : Place
  y = place h (suc (free_place ts))

  abbrev pub Sb : Sheets
  Sb = put Sa y (Inner lo ns)

  abbrev pub us : List (Option Place)
  us = set bs c (Some y)

  abbrev pub Sc : Sheets
  Sc = put Sb x (Inner v us)

  bs_length : length bs ≡ length labels
  bs_length = length-replicate (length labels) None

  x_kind : IsKindOf m (sheet_at S x.block).inner (sheet_at S x.block).nulls (Inner w ns)
  x_kind = subst (λ (t : Tuple). IsKindOf m (sheet_at S x.block).inner (sheet_at S x.block).nulls t) D.at_x ((D.shape.pages.each x.block).kinds x.offset)

  nodes_of : (ks : List (Option Place)) → length ks ≡ length labels → AreNodes v ks
  nodes_of ks e = record { each = e; some = let k = D.node in omega arith; same = λ f. cc }

  -- ---- the upper tuple
  may_a : MayStand m S x (Inner v bs)
  may_a = record {
    kind = (x_kind.0, nodes_of bs bs_length, subst (λ (b : Bool). IsTupleOf m b v) (sym D.main) D.upper_tuple);
    tree = λ z f hs j e a. let same : bs ≡ hs = cc in absurd (bare_at (length labels) j z (ap (λ (ks : List (Option Place)). get_or ks j None) same ∙ a));
    redirect = λ z s e. cc;
  }

  x_within : x.offset ≤ length (sheet_at S x.block).tuples
  x_within = stands_within (sheet_at S x.block).tuples x.offset (λ e. let a = sym D.at_x ∙ e in cc)

  fits_a : weight (with_tuple (sheet_at S x.block).tuples x.offset (Inner v bs)) ≤ 8160
  fits_a =
      let a = weight_replaced (sheet_at S x.block).tuples x.offset (Inner v bs) D.can.positive x_within in
      let e = ap size_of D.at_x in let s = D.shorter in let f = (D.shape.pages.each x.block).fits in omega arith

  changed_a : AreChanged m S Sa
  changed_a = changed_put m S S x (Inner v bs) (changed_none m S D.shape.pages) D.can may_a fits_a (inr (λ e. cc))

  Va : Place → Spot
  Va = put_at V q (Branch v bs)

  shown_a : IsShown (pages_of Sa) Va
  unfolding Va
  shown_a = (inner_at S V x w ns (shape_shown m S D.shape) D.can D.at_x).changed v bs

  pub at_q : V q ≡ Branch w ns
  at_q = (inner_at S V x w ns (shape_shown m S D.shape) D.can D.at_x).shown

  count_a : length Sa.sheets ≡ length S.sheets
  count_a = length-set S.sheets x.block (with_tuples (sheet_at S x.block) (with_tuple (sheet_at S x.block).tuples x.offset (Inner v bs)))

  x_a : tuple_of Sa x ≡ Inner v bs
  x_a = ap (λ (T : Place → Tuple). T x) (tuple_put S x (Inner v bs) D.can) ∙ put_at_same (tuple_of S) x (Inner v bs) x refl

  -- ---- the lower tuple
  y_a : tuple_of Sa y ≡ Placeholder
  y_a = free_place_free ts

  pub y_not_x : y ≡ x → ⊥
  y_not_x e = let a : Placeholder ≡ Inner v bs = sym y_a ∙ ap (tuple_of Sa) e ∙ x_a in cc

  can_y : CanPut Sa y
  can_y = record { block = let k = D.there in let l = count_a in omega arith; positive = omega arith; within = let f = free_place_length ts in omega arith }

  pub y_was : tuple_of S y ≡ Placeholder
  y_was = sym (ap (λ (T : Place → Tuple). T y) (tuple_put S x (Inner v bs) D.can) ∙ put_at_other (tuple_of S) x (Inner v bs) y y_not_x) ∙ y_a

  pub y_free : (V y ≡ Nothing) × (y.offset ≡ 0 → ⊥)
  y_free = (nothing_at (tuple_on (sheet_at S h).tuples) y.offset (V y) ((sheet_laid S V h D.from (shape_shown m S D.shape)).shows y.offset) y_was, λ z. absurd (omega arith))

  y_not_q : y ≡ q → ⊥
  y_not_q e = let a : Nothing ≡ Branch w ns = sym y_free.0 ∙ ap V e ∙ at_q in cc

  may_b : MayStand m Sa y (Inner lo ns)
  may_b = record {
    kind = (
      put_inner S x (Inner v bs) h D.can.block ∙ D.kind,
      record { each = x_kind.1.each; some = x_kind.1.some; same = x_kind.1.same },
      subst (λ (b : Bool). IsTupleOf m b lo) (sym (changed_a.nulls h ∙ D.tree ∙ D.main)) D.lower_tuple,
    );
    tree = λ z f hs j e a.
        let same : ns ≡ hs = cc in
        changed_a.nulls z.block ∙ D.shape.pages.trees x z w ns j (tuple_is S x ∙ D.at_x) (ap (λ (ks : List (Option Place)). get_or ks j None) same ∙ a) ∙ sym D.tree ∙ sym (changed_a.nulls h);
    redirect = λ z s e. cc;
  }

  changed_b : AreChanged m S Sb
  changed_b = changed_put m S Sa y (Inner lo ns) changed_a can_y may_b (added_fits ts (Inner lo ns) (changed_a.fits h) D.room) (inl D.from)

  Vb : Place → Spot
  Vb = put_at Va y (Branch lo ns)

  shown_b : IsShown (pages_of Sb) Vb
  unfolding Vb
  shown_b = write_shown Sa Va y (Inner lo ns) (Branch lo ns) shown_a D.from can_y (λ l i e. let a : Placeholder ≡ Live l i = sym y_a ∙ e in cc) refl

  pub x_b : tuple_of Sb x ≡ Inner v bs
  x_b = ap (λ (T : Place → Tuple). T x) (tuple_put Sa y (Inner lo ns) can_y) ∙ put_at_other (tuple_of Sa) y (Inner lo ns) x (λ e. y_not_x (sym e)) ∙ x_a

  can_b : CanPut Sb x
  can_b = can_put_after Sa y (Inner lo ns) x can_y (can_put_after S x (Inner v bs) x D.can D.can)

  -- ---- the downlink
  us_length : length us ≡ length labels
  us_length = length-set bs c (Some y) ∙ bs_length

  pub us_child : get_or us c None ≡ Some y
  us_child = get_or-set_same bs c (Some y) None (let k = D.node in let l = bs_length in omega arith)

  pub us_alone : (j : ℕ) (z : Place) → get_or us j None ≡ Some z → j ≡ c
  us_alone j z e = ⊎_elim (λ p. p) (λ n. absurd (bare_at (length labels) j z (sym (get_or-set_other bs c j (Some y) None n) ∙ e))) (cases_eq j c)

  b_nulls : (d : ℕ) → (sheet_at Sb d).nulls ≡ (sheet_at S d).nulls
  b_nulls d = changed_b.nulls d

  may_c : MayStand m Sb x (Inner v us)
  may_c = record {
    kind = (put_inner Sa y (Inner lo ns) x.block can_y.block ∙ put_inner S x (Inner v bs) x.block D.can.block ∙ x_kind.0, nodes_of us us_length, subst (λ (b : Bool). IsTupleOf m b v) (sym (b_nulls x.block ∙ D.main)) D.upper_tuple);
    tree = λ z f hs j e a.
        let same : us ≡ hs = cc in
        let d : get_or us j None ≡ Some z = ap (λ (ks : List (Option Place)). get_or ks j None) same ∙ a in
        let k : Some y ≡ Some z = sym us_child ∙ ap (λ i. get_or us i None) (sym (us_alone j z d)) ∙ d in
        let p : y ≡ z = cc in
        b_nulls z.block ∙ ap (λ (o : Place). (sheet_at S o.block).nulls) (sym p) ∙ D.tree ∙ sym (b_nulls x.block);
    redirect = λ z s e. cc;
  }

  fits_c : weight (with_tuple (sheet_at Sb x.block).tuples x.offset (Inner v us)) ≤ 8160
  fits_c =
      let ks : List Tuple = (sheet_at Sb x.block).tuples in
      let a = weight_replaced ks x.offset (Inner v us) D.can.positive (stands_within ks x.offset (λ e. let b = sym x_b ∙ e in cc)) in
      let e = ap size_of x_b in
      let s : size_of (Inner v us) ≡ size_of (Inner v bs) = ap (λ k. 8 + padded_length (length v.prefix) + 8 * k) (us_length ∙ sym bs_length) in
      let f = changed_b.fits x.block in omega arith

  changed_c : AreChanged m S Sc
  changed_c = changed_put m S Sb x (Inner v us) changed_b can_b may_c fits_c (inr (λ e. cc))

  abbrev pub V2 : Place → Spot
  V2 = put_at (put_at V q (Branch v us)) y (Branch lo ns)

  shown_c : IsShown (pages_of Sc) V2
  unfolding Vb Va
  shown_c = subst (λ (U : Place → Spot). IsShown (pages_of Sc) U) (written_twice V q y (Branch v bs) (Branch lo ns) (Branch v us) y_not_q) ((inner_at Sb Vb x v bs shown_b can_b x_b).changed v us)

  -- ---- what it costs
  abbrev cost : Cost
  cost = record { pages = 0; ticks = 0; spread = 1 }

  count_b : length Sb.sheets ≡ length Sa.sheets
  count_b = length-set Sa.sheets h (with_tuples (sheet_at Sa h) (with_tuple ts y.offset (Inner lo ns)))

  pub count_c : length Sc.sheets ≡ length S.sheets
  count_c = length-set Sb.sheets x.block (with_tuples (sheet_at Sb x.block) (with_tuple (sheet_at Sb x.block).tuples x.offset (Inner v us))) ∙ count_b ∙ count_a

  spread_c : spread Sc ≡ spread S + 1
  spread_c =
      let a = spread_put S x (Inner v bs) D.can (inr (sym (ap is_live D.at_x))) in let a1 = ap spread_at D.at_x in
      let b = spread_put Sa y (Inner lo ns) can_y (inl D.from) in let b1 = ap spread_at y_a in
      let d = spread_put Sb x (Inner v us) can_b (inr (sym (ap is_live x_b))) in let d1 = ap spread_at x_b in omega arith

  pub becomes : (touched : List ℕ) → length touched ≤ 8 → ((d : ℕ) → (IsAmong d touched → ⊥) → (d ≡ x.block → ⊥) × (d ≡ h → ⊥)) → Becomes m S Sc V2 S.clock touched cost
  becomes touched few away = record {
    shown = shown_c;
    clock_is = refl;
    pages = pages_kept m S Sc D.shape.pages changed_c;
    kinds = changed_c.kinds;
    within = record {
      others = λ d n. let (a, b) = away d n in put_other Sb x (Inner v us) d a ∙ put_other Sa y (Inner lo ns) d b ∙ put_other S x (Inner v bs) d a;
      few = few;
      pages = let k = count_c in (omega arith, omega arith);
      clock = (omega arith, omega arith);
      spread = let k = spread_c in omega arith;
    };
  }

  -- ---- what the table is then
  pub is_put : sheets_of (parted_table u x c h (Inner v bs) (Inner lo ns)) ≡ Sc
  is_put = ap (λ (t : Tuple). put Sb x (linked t c (Some y))) x_b

  pub x_c : tuple_of Sc x ≡ Inner v us
  x_c = ap (λ (T : Place → Tuple). T x) (tuple_put Sb x (Inner v us) can_b) ∙ put_at_same (tuple_of Sb) x (Inner v us) x refl

  pub y_c : tuple_of Sc y ≡ Inner lo ns
  y_c = ap (λ (T : Place → Tuple). T y) (tuple_put Sb x (Inner v us) can_b) ∙ put_at_other (tuple_of Sb) x (Inner v us) y y_not_x
      ∙ ap (λ (T : Place → Tuple). T y) (tuple_put Sa y (Inner lo ns) can_y) ∙ put_at_same (tuple_of Sa) y (Inner lo ns) y refl

  -- another inner tuple stays
  pub kept : (p : Place) (f : Frame) (ks : List (Option Place)) → tuple_at u p ≡ Inner f ks → (p ≡ x → ⊥) → tuple_of Sc p ≡ Inner f ks
  kept p f ks e n =
      let g : p ≡ y → ⊥ = λ r. let a : Placeholder ≡ Inner f ks = sym y_was ∙ ap (tuple_of S) (sym r) ∙ e in cc in
      ap (λ (T : Place → Tuple). T p) (tuple_put Sb x (Inner v us) can_b) ∙ put_at_other (tuple_of Sb) x (Inner v us) p n
      ∙ ap (λ (T : Place → Tuple). T p) (tuple_put Sa y (Inner lo ns) can_y) ∙ put_at_other (tuple_of Sa) y (Inner lo ns) p g
      ∙ ap (λ (T : Place → Tuple). T p) (tuple_put S x (Inner v bs) D.can) ∙ put_at_other (tuple_of S) x (Inner v bs) p n ∙ e

  pub kinds : (d : ℕ) → ((sheet_at Sc d).inner ≡ (sheet_at S d).inner) × ((sheet_at Sc d).nulls ≡ (sheet_at S d).nulls)
  kinds d = (put_inner Sb x (Inner v us) d can_b.block ∙ put_inner Sa y (Inner lo ns) d can_y.block ∙ put_inner S x (Inner v bs) d D.can.block, changed_c.nulls d)

  -- but at y, an inner tuple stands only where one stood
  pub made : (z : Place) → (z ≡ y → ⊥) → IsInner (tuple_of Sc z) → IsInner (tuple_at u z)
  made z n e = ⊎_elim (λ a. subst (λ (k : Place). IsInner (tuple_at u k)) (sym a) (subst IsInner (sym D.at_x) refl))
      (λ k. subst IsInner (ap (λ (T : Place → Tuple). T z) (tuple_put Sb x (Inner v us) can_b) ∙ put_at_other (tuple_of Sb) x (Inner v us) z k
      ∙ ap (λ (T : Place → Tuple). T z) (tuple_put Sa y (Inner lo ns) can_y) ∙ put_at_other (tuple_of Sa) y (Inner lo ns) z n
      ∙ ap (λ (T : Place → Tuple). T z) (tuple_put S x (Inner v bs) D.can) ∙ put_at_other (tuple_of S) x (Inner v bs) z k) e) (cases_place z x)
