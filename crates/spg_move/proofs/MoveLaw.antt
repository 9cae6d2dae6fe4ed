-- The pages once a chain has gone to another page, and the law of that.
use Rattle.std.proofs.Common.{◌≡◌, ℕ, suc, ◌+◌, ◌-◌, ◌*◌, ◌≤◌, ◌<◌, Bool, false, List, [], ◌∷◌, ⊎_elim, Option, Some, None, get_or, set, length, length-set, refl, sym, ap, ◌∙◌, subst, inl, inr, arith}
use mathlib.Core.Path.{fun_ext}
use Rattle.std.proofs.lemmas.Bool.{cases_eq}
use Rattle.std.proofs.lemmas.List.{get_or-set_same, get_or-set_other}
use Rattle.spg_opclass.specs.Meaning.{Meaning}
use Rattle.spg_opclass.specs.Laws.{padded_length}
use Rattle.spg_forest.specs.View.{Place, Leaf}
use Rattle.spg_forest.specs.Spot.{Frame, Spot, Branch, Bucket, Forward, IsIn, put_at}
use Rattle.spg_forest.specs.Tuples.{Tuple, Inner, Live, Redirect, Placeholder, IsLaidOut, put_on}
use Rattle.spg_forest.specs.Pages.{place, tuple_on, with_tuple, moved, IsShown}
use Rattle.spg_forest.specs.Sheets.{Sheet, Sheets, sheet_at, with_tuples, pages_of, weight, size_of, free_place}
use Rattle.spg_forest.specs.Shape.{Shape, spots, AreNodes, IsKindOf, IsRestOf}
use Rattle.spg_forest.specs.Section.{Adds, IsWithin, Cost}
use Rattle.spg_forest.specs.Walk.{spread_on, spread_at, is_live}
use Rattle.spg_forest.specs.Edits.{with_sheet, tuple_of, put, CanPut, MayStand, AreChanged, spot_of}
use Rattle.spg_forest.specs.Changes.{moved_to, IsMovable, Becomes}
use Rattle.spg_forest.specs.Puts.{IsComing}
use Rattle.spg_forest.proofs.Changes.{moves_chain}
use Rattle.spg_forest.proofs.Edits.{sheet_laid, sheet_same, sheet_other, sheet_shown}
use Rattle.spg_forest.proofs.Front.{nothing_at}
use Rattle.spg_forest.proofs.Joins.{weight_replaced, stands_within}
use Rattle.spg_forest.proofs.Puts.{may_leaf}
use Rattle.spg_forest.proofs.Relocate.{within_from_some}
use Rattle.spg_forest.proofs.Sections.{shape_shown}
use Rattle.spg_forest.proofs.Spots.{put_at_same, put_at_other, cases_place}
use Rattle.spg_forest.proofs.Stock.{tuple_is, changed_page, changed_put, pages_kept, spread_set, spread_put}
use Rattle.spg_forest.proofs.Writes.{inner_at}
use Rattle.spg_page.proofs.SheetFacts.{free_place_free}
use Rattle.spg_chain.proofs.Shown.{laid_chained, shown_begins}
use Rattle.spg_chain.proofs.Taking.{takes_laid_out}
use Rattle.spg_chain.specs.Listed.{chained, HaveRoom}
use Rattle.spg_descend.proofs.Stages.{high_spread}
use Rattle.spg_chain.proofs.Listing.{list_laid, list_tuple}
use Rattle.spg_chain.proofs.ListTotals.{list_spread, list_fits}
use Rattle.spg_move.specs.Moving.{with_new, left}
use Rattle.spg_move.proofs.Leaving.{left_spread, left_weight, left_tuple}

-- writes at two places in either order
swapped : {S : Type 0} (V : Place → S) (x y : Place) (a b : S) → (x ≡ y → ⊥) → put_at (put_at V x a) y b ≡ put_at (put_at V y b) x a
swapped {S} V x y a b n = fun_ext (λ k. ⊎_elim
    (λ e. put_at_same (put_at V x a) y b k e ∙ sym (put_at_other (put_at V y b) x a k (λ q. n (sym q ∙ e)) ∙ put_at_same V y b k e))
    (λ m. put_at_other (put_at V x a) y b k m ∙ ⊎_elim
    (λ e. put_at_same V x a k e ∙ sym (put_at_same (put_at V y b) x a k e))
    (λ q. put_at_other V x a k q ∙ sym (put_at_other (put_at V y b) x a k q ∙ put_at_other V y b k m)) (cases_place k x)) (cases_place k y))

with_new_length : (ls : List Leaf) (new : Leaf) → length (with_new ls new) ≡ suc (length ls)
with_new_length [] new = refl
with_new_length (l ∷ ls) new = refl

-- at a later moment
kept_later : {Key Recon Cond : Type 0} (m : Meaning Key Recon Cond) (S : Sheets) → Shape m S → AreChanged m S (record S { clock = S.clock + 1 })
kept_later m S H = record { count = omega arith; nulls = λ b. refl; fits = λ b. (H.pages.each b).fits; tuples = λ x. inl (refl, refl); empty_root = H.pages.empty_root; kinds = λ b g. refl }

module _ {Key Recon Cond : Type 0} (m : Meaning Key Recon Cond) (S : Sheets) (b : ℕ) (x p : Place) (i : ℕ) (w : Frame) (ns : List (Option Place)) (ls : List Leaf) (new : Leaf)
    (H : Shape m S) (high : 3 ≤ b) (there : b < length S.sheets) (leaf_page : (sheet_at S b).inner ≡ false) (x_high : 3 ≤ x.block) (x_there : x.block < length S.sheets) (apart : x.block ≡ b → ⊥)
    (at_x : spots S x ≡ Bucket ls) (can : CanPut S p) (at_p : tuple_of S p ≡ Inner w ns) (link : get_or ns i None ≡ Some x) (p_b : p.block ≡ b → ⊥) (p_x : p.block ≡ x.block → ⊥) (tree : (sheet_at S b).nulls ≡ (sheet_at S p.block).nulls)
    (room : HaveRoom (sheet_at S b).tuples (with_new ls new)) (rests : (l : Leaf) → IsIn l (with_new ls new) → IsRestOf m (sheet_at S b).nulls l.rest) where
  abbrev ts : List Tuple
  ts = (sheet_at S b).tuples

  abbrev vs : List Leaf
  vs = with_new ls new

  abbrev us : List Tuple
  us = chained ts 0 vs

  abbrev h : ℕ
  h = suc (free_place ts)

  abbrev y : Place
  y = place b h

  abbrev q : Place
  q = spot_of p

  -- the pages with the clock raised, the chain on its new page, the old one gone, and the downlink set
  abbrev S0 : Sheets
  S0 = record S { clock = S.clock + 1 }

  abbrev Sb : Sheets
  Sb = with_sheet S0 b (with_tuples (sheet_at S0 b) us)

  abbrev xs : List Tuple
  xs = (sheet_at Sb x.block).tuples

  abbrev zs : List Tuple
  zs = left xs x.offset y S.clock

  abbrev pub Sx : Sheets
  Sx = with_sheet Sb x.block (with_tuples (sheet_at Sb x.block) zs)

  abbrev gs : List (Option Place)
  gs = set ns i (Some y)

  abbrev pub S2 : Sheets
  S2 = put Sx p (Inner w gs)

  -- ---- the blocks
  b_same : sheet_at Sb b ≡ with_tuples (sheet_at S b) us
  b_same = sheet_same S0 b (with_tuples (sheet_at S0 b) us) there

  x_was : sheet_at Sb x.block ≡ sheet_at S x.block
  x_was = sheet_other S0 b (with_tuples (sheet_at S0 b) us) x.block apart

  x_there_b : x.block < length Sb.sheets
  x_there_b = let a = length-set S.sheets b (with_tuples (sheet_at S0 b) us) in let k = x_there in omega arith

  p_was : sheet_at Sx p.block ≡ sheet_at S p.block
  p_was = sheet_other Sb x.block (with_tuples (sheet_at Sb x.block) zs) p.block p_x ∙ sheet_other S0 b (with_tuples (sheet_at S0 b) us) p.block p_b

  can_x : CanPut Sx p
  can_x = record {
    block = let k = can.block in let a = length-set S.sheets b (with_tuples (sheet_at S0 b) us) in let c = length-set Sb.sheets x.block (with_tuples (sheet_at Sb x.block) zs) in omega arith;
    positive = can.positive;
    within = let k = can.within in let e = ap (λ (s : Sheet). length s.tuples) p_was in omega arith;
  }

  pub at_p_x : tuple_of Sx p ≡ Inner w ns
  at_p_x = ap (λ (s : Sheet). tuple_on s.tuples p.offset) p_was ∙ at_p

  y_not_x : y ≡ x → ⊥
  y_not_x e = apart (sym (ap (λ (u : Place). u.block) e))

  -- ---- what is shown
  V : Place → Spot
  V = spots S

  shown : IsShown (pages_of S0) V
  unfolding V
  shown = let A = shape_shown m S H in record { meta = A.meta; root = A.root; low = A.low; pages = A.pages }

  b_laid : IsLaidOut (tuple_on ts) (λ o. V (place b o))
  b_laid = sheet_laid S0 V b high shown

  Vb : Place → Spot
  Vb = put_at V y (Bucket vs)

  shown_b : IsShown (pages_of Sb) Vb
  unfolding Vb
  shown_b = sheet_shown S0 V b h us (Bucket vs) there high shown (go ls)
    where
      go : (ks : List Leaf) → IsLaidOut (tuple_on (chained ts 0 (with_new ks new))) (put_on (λ o. V (place b o)) h (Bucket (with_new ks new)))
      go [] = list_laid ts (λ o. V (place b o)) new [] b_laid
      go (k ∷ ks) = list_laid ts (λ o. V (place b o)) k (new ∷ ks) b_laid

  x_laid : IsLaidOut (tuple_on xs) (λ o. Vb (place x.block o))
  x_laid = sheet_laid Sb Vb x.block x_high shown_b

  x_shows : Vb x ≡ Bucket ls
  unfolding Vb V
  x_shows = put_at_other V y (Bucket vs) x (λ e. y_not_x (sym e)) ∙ at_x

  Vx : Place → Spot
  Vx = put_at Vb x (Forward y S.clock)

  shown_x : IsShown (pages_of Sx) Vx
  unfolding Vx
  shown_x = sheet_shown Sb Vb x.block x.offset zs (Forward y S.clock) x_there_b x_high shown_b
      (takes_laid_out xs x.offset y S.clock (laid_chained xs (λ o. Vb (place x.block o)) x_laid) (shown_begins xs (λ o. Vb (place x.block o)) x_laid x.offset ls x_shows) (λ o. Vb (place x.block o)) ls x_laid x_shows)

  V2 : Place → Spot
  V2 = put_at Vx q (Branch w gs)

  shown_2 : IsShown (pages_of S2) V2
  unfolding V2
  shown_2 = let I = inner_at Sx Vx p w ns shown_x can_x at_p_x in I.changed w gs

  V2_is : V2 ≡ moved_to (spots S) S.clock x y (Bucket vs) q w ns i
  unfolding V2 Vx Vb V
  V2_is = ap (λ (U : Place → Spot). put_at U q (Branch w gs)) (swapped (spots S) y x (Bucket vs) (Forward y S.clock) y_not_x)

  movable : IsMovable (spots S) x y q w ns i
  unfolding V
  movable = record {
    free = (nothing_at (tuple_on ts) h (V y) (b_laid.shows h) (free_place_free ts), λ z. absurd (omega arith));
    parent = let I = inner_at S (spots S) p w ns (shape_shown m S H) can at_p in I.shown;
    downlink = link;
  }

  -- ---- what stands on the pages
  changed_b : AreChanged m S Sb
  changed_b = changed_page m S S0 b (with_tuples (sheet_at S0 b) us) (kept_later m S H) there refl (list_fits ts vs room)
      (λ o. ⊎_elim (λ e. inl (e, refl)) (λ (l, n, a, e). inr (subst (λ (t : Tuple). MayStand m Sb (place b o) t) (sym e) (leaf_may o l n a))) (list_tuple ts vs o)) (λ k. absurd (omega arith)) (λ k. refl)
    where
      leaf_may : (o : ℕ) (l : Leaf) (n : ℕ) → IsIn l vs → MayStand m Sb (place b o) (Live l n)
      leaf_may o l n a = may_leaf m Sb (place b o) l n (ap (λ (s : Sheet). s.inner) b_same ∙ leaf_page) (subst (λ (u : Bool). IsRestOf m u l.rest) (sym (ap (λ (s : Sheet). s.nulls) b_same)) (rests l a))

  x_lost : spread_on zs + (length ls - 1) ≤ spread_on xs
  x_lost = left_spread xs (λ o. Vb (place x.block o)) x_laid x.offset ls x_shows y S.clock

  changed_x : AreChanged m S Sx
  changed_x = changed_page m S Sb x.block (with_tuples (sheet_at Sb x.block) zs) changed_b x_there_b refl
      (let a = left_weight xs (λ o. Vb (place x.block o)) x_laid x.offset ls x_shows y S.clock in let c = changed_b.fits x.block in omega arith)
      (λ o. ⊎_elim (λ e. inl (e, refl)) (λ k. inr (⊎_elim
      (λ e. subst (λ (t : Tuple). MayStand m Sx (place x.block o) t) (sym e) none_may)
      (λ (f, e). subst (λ (t : Tuple). MayStand m Sx (place x.block o) t) (sym e) redirect_may) k)) (left_tuple xs (λ o. Vb (place x.block o)) x_laid x.offset ls x_shows y S.clock o))
      (λ k. absurd (omega arith)) (λ k. refl)
    where
      none_may : {o : ℕ} → MayStand m Sx (place x.block o) Placeholder
      none_may = record { kind = tt; tree = λ v f hs j e a. cc; redirect = λ v u e. cc }

      redirect_may : {o : ℕ} → MayStand m Sx (place x.block o) (Redirect y S.clock)
      redirect_may {o} = record {
        kind = tt;
        tree = λ v f hs j e a. cc;
        redirect = λ v u e. let d : y ≡ v = cc in subst (λ (z : Place). (z ≡ place x.block o → ⊥) × (3 ≤ z.block) × (z.block < length Sx.sheets)) d
            ((λ c. apart (sym (ap (λ (z : Place). z.block) c))), high, let a = length-set S.sheets b (with_tuples (sheet_at S0 b) us) in let c = length-set Sb.sheets x.block (with_tuples (sheet_at Sb x.block) zs) in let k = there in omega arith);
      }

  p_kind : IsKindOf m (sheet_at S p.block).inner (sheet_at S p.block).nulls (Inner w ns)
  p_kind = subst (λ (t : Tuple). IsKindOf m (sheet_at S p.block).inner (sheet_at S p.block).nulls t) at_p ((H.pages.each p.block).kinds p.offset)

  nodes : AreNodes w gs
  nodes = let N = p_kind.1 in let l = length-set ns i (Some y) in record { each = l ∙ N.each; some = let k = N.some in omega arith; same = N.same }

  p_may : MayStand m Sx p (Inner w gs)
  p_may = record {
    kind = subst (λ (s : Sheet). IsKindOf m s.inner s.nulls (Inner w gs)) (sym p_was) (p_kind.0, nodes, p_kind.2);
    tree = λ v f hs j e a.
        let same : gs ≡ hs = cc in
        let d : get_or gs j None ≡ Some v = ap (λ ks. get_or ks j None) same ∙ a in
        changed_x.nulls v.block ∙ to v j d ∙ sym (changed_x.nulls p.block);
    redirect = λ v u e. cc;
  }
    where
      to : (v : Place) (j : ℕ) → get_or gs j None ≡ Some v → (sheet_at S v.block).nulls ≡ (sheet_at S p.block).nulls
      to v j d = ⊎_elim
          (λ e. let c : Some y ≡ Some v = sym (ap (λ k. get_or gs k None) e ∙ get_or-set_same ns i (Some y) None (within_from_some ns i x link)) ∙ d in let f : y ≡ v = cc in ap (λ (u : Place). (sheet_at S u.block).nulls) (sym f) ∙ tree)
          (λ n. H.pages.trees p v w ns j (tuple_is S p ∙ at_p) (sym (get_or-set_other ns i j (Some y) None n) ∙ d)) (cases_eq j i)

  p_fits : weight (with_tuple (sheet_at Sx p.block).tuples p.offset (Inner w gs)) ≤ 8160
  p_fits =
      let ps : List Tuple = (sheet_at Sx p.block).tuples in
      let a = weight_replaced ps p.offset (Inner w gs) can.positive (stands_within ps p.offset (λ e. let c = sym at_p_x ∙ e in cc)) in
      let e = ap size_of at_p_x in let l = length-set ns i (Some y) in
      let c : size_of (Inner w gs) ≡ size_of (Inner w ns) = ap (λ k. 8 + padded_length (length w.prefix) + 8 * k) l in
      let d = changed_x.fits p.block in omega arith

  changed_2 : AreChanged m S S2
  changed_2 = changed_put m S Sx p (Inner w gs) changed_x can_x p_may p_fits (inr (λ e. cc))

  -- ---- what it costs
  abbrev cost : Cost
  cost = record { pages = 0; ticks = 1; spread = 1 }

  within : IsWithin S S2 (b ∷ x.block ∷ p.block ∷ []) cost
  within = record {
    others = λ d k. sheet_other Sx p.block (with_tuples (sheet_at Sx p.block) (with_tuple (sheet_at Sx p.block).tuples p.offset (Inner w gs))) d (λ e. k (inr (inr (inl e))))
        ∙ sheet_other Sb x.block (with_tuples (sheet_at Sb x.block) zs) d (λ e. k (inr (inl e))) ∙ sheet_other S0 b (with_tuples (sheet_at S0 b) us) d (λ e. k (inl e));
    few = omega arith;
    pages =
        let a = length-set S.sheets b (with_tuples (sheet_at S0 b) us) in let c = length-set Sb.sheets x.block (with_tuples (sheet_at Sb x.block) zs) in
        let e = length-set Sx.sheets p.block (with_tuples (sheet_at Sx p.block) (with_tuple (sheet_at Sx p.block).tuples p.offset (Inner w gs))) in (omega arith, omega arith);
    clock = (omega arith, omega arith);
    spread =
        let a = spread_set S0 b (with_tuples (sheet_at S0 b) us) there in let a1 = high_spread b us high in let a2 = high_spread b ts high in
        let c = spread_set Sb x.block (with_tuples (sheet_at Sb x.block) zs) x_there_b in let c1 = high_spread x.block zs x_high in let c2 = high_spread x.block xs x_high in
        let e = spread_put Sx p (Inner w gs) can_x (inr (sym (ap is_live at_p_x))) in let e1 = ap spread_at at_p_x in
        let f = list_spread ts vs in let g = with_new_length ls new in let l = x_lost in omega arith;
  }

  becomes : Becomes m S S2 (moved_to (spots S) S.clock x y (Bucket vs) q w ns i) (suc S.clock) (b ∷ x.block ∷ p.block ∷ []) cost
  becomes = record { shown = subst (λ (U : Place → Spot). IsShown (pages_of S2) U) V2_is shown_2; clock_is = omega arith; pages = pages_kept m S S2 H.pages changed_2; within = within; kinds = changed_2.kinds }

  -- the law
  pub moves : (r : Option Recon) (key : Option Key) → IsComing m (spots S) x r new key → Adds m S S2 (b ∷ x.block ∷ p.block ∷ []) cost new.row key (moved x y)
  moves r key N = go ls at_x becomes
    where
      go : (ks : List Leaf) → spots S x ≡ Bucket ks → Becomes m S S2 (moved_to (spots S) S.clock x y (Bucket (with_new ks new)) q w ns i) (suc S.clock) (b ∷ x.block ∷ p.block ∷ []) cost → Adds m S S2 (b ∷ x.block ∷ p.block ∷ []) cost new.row key (moved x y)
      go [] e B = moves_chain m S S2 (b ∷ x.block ∷ p.block ∷ []) cost x y q w ns i [] [] new r key H movable e N B
      go (k ∷ ks) e B = moves_chain m S S2 (b ∷ x.block ∷ p.block ∷ []) cost x y q w ns i (k ∷ []) ks new r key H movable e N B
