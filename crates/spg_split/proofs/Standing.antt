-- What is known where an insert stands at a root leaf page that has no room.
use Rattle.std.proofs.Common.{◌≡◌, ℕ, zero, suc, ◌+◌, ◌-◌, ◌≤◌, ◌<◌, Bool, true, false, List, [], ◌∷◌, ◌++◌, ◌⊎◌, ⊎_elim, Option, Some, None, is_none, IsSome, length, length-append, take, slice_get, slice_index, refl, sym, ap, ◌∙◌, subst, inl, inr, arith}
use Rattle.std.proofs.lemmas.Bool.{cases_lt}
use Rattle.std.proofs.lemmas.List.{length-map, length-replicate}
use Rattle.spg_base.specs.Row.{RowAt}
use Rattle.spg_opclass.specs.Meaning.{Meaning}
use Rattle.spg_opclass.specs.Laws.{CodeLaw, leaf_size, inner_size}
use Rattle.spg_forest.specs.View.{Leaf}
use Rattle.spg_forest.specs.Spot.{Frame, Spot, Bucket, IsIn, IsStanding, leaves_of, NoRepeat}
use Rattle.spg_forest.specs.Tuples.{Tuple, Inner, Live}
use Rattle.spg_forest.specs.Pages.{place, tuple_on, all_live}
use Rattle.spg_forest.specs.Links.{leaves_on}
use Rattle.spg_forest.specs.Classes.{class_of, key_of, start_of}
use Rattle.spg_forest.specs.Divisions.{rests_of}
use Rattle.spg_forest.specs.Sheets.{sheet_at, weight}
use Rattle.spg_forest.specs.Shape.{Shape, spots, IsKindOf, IsTupleOf, IsRestOf}
use Rattle.spg_forest.proofs.Edits.{page_is}
use Rattle.spg_forest.proofs.Sections.{shape_shown, shape_tree}
use Rattle.spg_forest.proofs.Trees.{recon_once}
use Rattle.spg_forest.proofs.FitWay.{recon_of_fit}
use Rattle.spg_page.specs.Reads.{frame_in}
use Rattle.spg_tree.specs.Table.{Table, sheets_of, tuples_at}
use Rattle.spg_tree.specs.Descents.{Descending, in_nulls, IsReconFor}
use Rattle.spg_tree.specs.declared.stand.Stand.{Stand}
use Rattle.spg_tree.specs.declared.stand.Stand.TheVariants.{Root}
use Rattle.spg_descend.specs.Carried.{carried, IsCarried, WayFits}
use Rattle.spg_descend.specs.Puts.{IsAtLeaves, Fits}
use Rattle.spg_split.specs.declared.division.Division.{Division}
use Rattle.spg_split.specs.declared.parts.Parts.{Parts}
use Rattle.spg_split.specs.Dividing.{AreAllLive, GiveKeys, IsDivided, rows_of}
use Rattle.spg_split.specs.Placing.{leaves_with}
use Rattle.spg_chain.specs.Listed.{leaves_in}
use Rattle.spg_split.specs.Parts.{ArePartsOf, AreReady}
use Rattle.spg_descend.specs.BareNodes.{bare}
use Rattle.spg_split.proofs.Reading.{leaves_of_live}
use Rattle.spg_chain.proofs.LiveLists.{leaves_in_live, length-all_live}
use Rattle.spg_chain.proofs.Room.{least_weight}
use Rattle.spg_split.proofs.Taken.{with_length, with_rest, without_last, lighter}

-- sizes of what the class gives
pub rest_small : {Key Recon Cond : Type 0} (m : Meaning Key Recon Cond) → CodeLaw m → (nulls : Bool) (q : List ℕ) → IsRestOf m nulls q → leaf_size q ≤ 4076
rest_small m law true q e = rw e (omega arith)
rest_small m law false q e = law.leaf_fits q e

pub rest_fits : {Key Recon Cond : Type 0} (m : Meaning Key Recon Cond) → CodeLaw m → (nulls : Bool) (q : List ℕ) → IsRestOf m nulls q → leaf_size q ≤ 8156
rest_fits m law nulls q e = let s = rest_small m law nulls q e in omega arith

pub tuple_fits : {Key Recon Cond : Type 0} (m : Meaning Key Recon Cond) → CodeLaw m → (nulls : Bool) (w : Frame) → IsTupleOf m nulls w → inner_size w ≤ 8156
tuple_fits m law true w e = rw e (omega arith)
tuple_fits m law false w e = law.inner_fits w e

two_small : (ls : List Leaf) → length ls ≤ 2 → ((l : Leaf) → IsIn l ls → leaf_size l.rest ≤ 4076) → weight (all_live ls) ≤ 8160
two_small [] n h = omega arith
two_small (a ∷ []) n h = let x = h a (inl refl) in omega arith
two_small (a ∷ b ∷ []) n h = let x = h a (inl refl) in let y = h b (inr (inl refl)) in omega arith
two_small (a ∷ b ∷ c ∷ ls) n h = absurd (omega arith)

-- two leaves fit on one page
pub two_fit : {Key Recon Cond : Type 0} (m : Meaning Key Recon Cond) → CodeLaw m → (nulls : Bool) (rows : List RowAt) (rests : List (List ℕ)) → length (leaves_with rows rests) ≤ 2 → ((i : ℕ) (q : List ℕ) → slice_get rests i ≡ Some q → IsRestOf m nulls q) → weight (all_live (leaves_with rows rests)) ≤ 8160
two_fit m law nulls rows rests n h = two_small (leaves_with rows rests) n (λ l a. let (i, e) = with_rest rows rests l a in rest_small m law nulls l.rest (h i l.rest e))

pub give_from : {Key Recon Cond : Type 0} (m : Meaning Key Recon Cond) (r : Option Recon) (vs : List Leaf) → ((l : Leaf) → IsIn l vs → IsSome (key_of m r l.rest)) → GiveKeys m r (rests_of vs)
give_from m r [] h = tt
give_from m r (v ∷ vs) h = (h v (inl refl), give_from m r vs (λ l a. h l (inr a)))

pub in_cases : (ls : List Leaf) (new l : Leaf) → IsIn l (ls ++ new ∷ []) → IsIn l ls ⊎ (new ≡ l)
in_cases [] new l a = ⊎_elim (λ e. inr e) (λ b. absurd b) a
in_cases (k ∷ ls) new l a = ⊎_elim (λ e. inl (inl e)) (λ b. ⊎_elim (λ c. inl (inr c)) (λ e. inr e) (in_cases ls new l b)) a

pub no_repeat : (ls : List Leaf) (new : Leaf) → NoRepeat ls → ((l : Leaf) → IsIn l ls → l.row ≡ new.row → ⊥) → NoRepeat (ls ++ new ∷ [])
no_repeat [] new a h = ((λ m b. absurd b), tt)
no_repeat (l ∷ ls) new (a, b) h = ((λ m c e. ⊎_elim (λ d. a m d e) (λ d. h l (inl refl) (sym e ∙ ap (λ (u : Leaf). u.row) (sym d))) (in_cases ls new m c)), no_repeat ls new b (λ k c. h k (inr c)))

pub slice_first : (ls : List Leaf) (new l : Leaf) (i : ℕ) → slice_get ls i ≡ Some l → slice_get (rests_of (ls ++ new ∷ [])) i ≡ Some l.rest
slice_first [] new l i e = cc
slice_first (k ∷ ls) new l zero e = let c : k ≡ l = cc in ap (λ (u : Leaf). Some u.rest) c
slice_first (k ∷ ls) new l (suc i) e = slice_first ls new l i e

pub slice_last : (ls : List Leaf) (new : Leaf) → slice_get (rests_of (ls ++ new ∷ [])) (length ls) ≡ Some new.rest
slice_last [] new = refl
slice_last (l ∷ ls) new = slice_last ls new

-- the rebuilt value is missing in the nulls tree alone
pub nulls_recon : {Recon : Type 0} (start recon : Option Recon) → IsReconFor start recon → is_none recon ≡ is_none start
nulls_recon None None h = refl
nulls_recon None (Some r) h = absurd h
nulls_recon (Some s) None h = absurd h
nulls_recon (Some s) (Some r) h = refl

module _ {Key Recon Cond : Type 0} (m : Meaning Key Recon Cond) (codes : CodeLaw m) (t : Table) (d : Descending Recon) (root : ℕ) (H : Shape m (sheets_of t)) (st : d.stand ≡ Root root) (A : IsAtLeaves (sheets_of t) (in_nulls d) d.stand)
    (K : (key : Option Key) × IsCarried m (sheets_of t) d key) where
  abbrev pub ls : List Leaf
  ls = leaves_on (tuples_at t root)

  abbrev pub vs : List Leaf
  vs = ls ++ carried d ∷ []

  pub at_root : (0 < root) × (root < 3) × ((sheet_at (sheets_of t) root).inner ≡ false) × ((sheet_at (sheets_of t) root).nulls ≡ in_nulls d)
  at_root = subst (λ (s : Stand). IsAtLeaves (sheets_of t) (in_nulls d) s) st A

  pub live_there : AreAllLive (tuples_at t root) × (spots (sheets_of t) (place root 0) ≡ Bucket ls)
  live_there = let (above, low, leaf, nulls) = at_root in ⊎_elim
      (λ (w, ns, e, f). absurd (let a : tuples_at t root ≡ Inner w ns ∷ [] = sym (page_is (sheets_of t) root) ∙ e in
      let k = subst (λ (us : List Tuple). IsKindOf m (sheet_at (sheets_of t) root).inner (sheet_at (sheets_of t) root).nulls (tuple_on us 1)) a ((H.pages.each root).kinds 1) in
      let i : (sheet_at (sheets_of t) root).inner ≡ true = k.0 in let j : false ≡ true = sym leaf ∙ i in cc))
      (λ (ks, e, f). let a : tuples_at t root ≡ all_live ks = sym (page_is (sheets_of t) root) ∙ e in
      let b : ls ≡ ks = ap leaves_on a ∙ leaves_of_live ks in (a ∙ ap all_live (sym b), f ∙ ap Bucket (sym b)))
      ((shape_shown m (sheets_of t) H).root root above low)

  pub recon_is : (key : Option Key) → IsCarried m (sheets_of t) d key → d.recon ≡ start_of m root
  recon_is key C = subst (λ (s : Stand). WayFits m (sheets_of t) s d.parent d.recon key) st C.way

  standing : IsStanding (spots (sheets_of t) (place root 0))
  standing = subst IsStanding (sym live_there.1) tt

  pub keys : GiveKeys m d.recon (rests_of vs)
  keys = let (key, C) = K in give_from m d.recon vs (λ l a. ⊎_elim
      (λ b. let (r, k, fit, e) = H.keys (place root 0) l (subst (λ (s : Spot). IsIn l (leaves_of s)) (sym live_there.1) b) in
      let q : r ≡ d.recon = recon_once (class_of m) (spots (sheets_of t)) t.clock (shape_tree m (sheets_of t) H) (place root 0) r d.recon (recon_of_fit (class_of m) (spots (sheets_of t)) (Some k) (place root 0) r fit) (place root 0, [], (refl, standing), (refl, sym (recon_is key C))) in
      subst (λ (o : Option (Option Key)). IsSome o) (sym (subst (λ (z : Option Recon). key_of m z l.rest ≡ Some k) q e)) refl)
      (λ e. subst (λ (u : Leaf). IsSome (key_of m d.recon u.rest)) e (subst (λ (o : Option (Option Key)). IsSome o) (sym C.rebuilt) refl)) (in_cases ls (carried d) l a))

  pub carried_fits : leaf_size d.rest ≤ 8156
  carried_fits = let (key, C) = K in rest_fits m codes (in_nulls d) d.rest C.rest

  pub count_vs : length vs ≡ length ls + 1
  count_vs = length-append ls (carried d ∷ [])

  pub rests_count : length (rests_of vs) ≡ length ls + 1
  rests_count = length-map vs (λ (l : Leaf). l.rest) ∙ count_vs

  pub once : NoRepeat ls
  once = subst (λ (s : Spot). NoRepeat (leaves_of s)) live_there.1 ((shape_tree m (sheets_of t) H).once (place root 0))

  pub all_once : (key : Option Key) → IsCarried m (sheets_of t) d key → NoRepeat vs
  all_once key C = no_repeat ls (carried d) once (λ l a e. C.fresh (place root 0) l (subst (λ (s : Spot). IsIn l (leaves_of s)) (sym live_there.1) a) e)

  module _ (no_room : Fits t d.stand (Live (carried d) 0) → ⊥) where
    pub one_there : 1 ≤ length ls
    one_there = go ls (ap weight live_there.0)
      where
        go : (ks : List Leaf) → weight (tuples_at t root) ≡ weight (all_live ks) → 1 ≤ length ks
        go [] e = absurd (no_room (subst (λ (s : Stand). Fits t s (Live (carried d) 0)) (sym st) (let f = carried_fits in let e2 : weight (tuples_at t root) ≡ 0 = e in omega arith)))
        go (k ∷ ks) e = omega arith

    pub several : 2 ≤ length (rests_of vs)
    several = let a = one_there in let b = count_vs in let c = length-map vs (λ (l : Leaf). l.rest) in omega arith

    module _ (dv : Division) (D : IsDivided m d.recon (rests_of vs) dv) (same : is_none d.recon ≡ in_nulls d) (p : Parts) (P : ArePartsOf (rows_of vs) dv p) where
      pub rest_count : length dv.rests ≡ length vs
      rest_count = D.rest_each ∙ length-map vs (λ (l : Leaf). l.rest)

      pub row_count : length (rows_of vs) ≡ length vs
      row_count = length-map vs (λ (l : Leaf). l.row)

      pub leaf_count : length p.leaves ≡ length vs
      leaf_count = ap length P.leaves ∙ length-all_live (leaves_with (rows_of vs) dv.rests) ∙ with_length (rows_of vs) dv.rests (rest_count ∙ sym row_count) ∙ row_count

      pub node_count : length p.node_of ≡ length vs
      node_count = ap length P.node_of ∙ D.node_each ∙ length-map vs (λ (l : Leaf). l.rest)

      pub link_count : length p.links ≡ length dv.frame.labels
      link_count = ap length P.links ∙ length-replicate (length dv.frame.labels) None

      pub ready : AreReady p
      ready = record {
        few = let a = leaf_count in let b = count_vs in let c = least_weight ls in let e = ap weight live_there.0 in let f = (H.pages.each root).fits in omega arith;
        each = leaf_count ∙ sym node_count;
        leaves = P.leaves ∙ ap all_live (sym (leaves_in_live (leaves_with (rows_of vs) dv.rests)) ∙ ap leaves_in (sym P.leaves));
        there = λ i h. let e = ap length P.node_of in let q : slice_index p.node_of i ≡ slice_index dv.node_of i = ap (λ ns. slice_index ns i) P.node_of in let b = D.there i (omega arith) in let l = link_count in omega arith;
        inner = P.inner ∙ ap (λ k. Inner dv.frame (bare k)) (sym link_count) ∙ ap (λ (u : Tuple). Inner (frame_in u) (bare (length p.links))) (sym P.inner);
        count = let a = link_count in let b = tuple_fits m codes (is_none d.recon) dv.frame D.tuple in omega arith;
      }

      pub old_lighter : weight (all_live (leaves_with (rows_of ls) dv.rests)) ≤ 8160
      old_lighter =
          let a = lighter ls dv.rests (λ i l q e f. D.not_longer i l.rest q (slice_first ls (carried d) l i e) f) in
          let e = ap weight live_there.0 in let f = (H.pages.each root).fits in omega arith

      pub old_leaves : take (length p.leaves - 1) p.leaves ≡ all_live (leaves_with (rows_of ls) dv.rests)
      old_leaves =
          let e : length p.leaves - 1 ≡ length ls = let a = leaf_count in let b = count_vs in omega arith in
          ap (λ k. take k p.leaves) e ∙ ap (take (length ls)) P.leaves ∙ without_last ls (carried d) dv.rests rest_count

      pub others_fit : weight (take (length p.leaves - 1) p.leaves) ≤ 8160
      others_fit = rw old_leaves old_lighter

      pub many : 8160 < weight p.leaves → 2 ≤ length ls
      many big = ⊎_elim
          (λ h. absurd (let n = with_length (rows_of vs) dv.rests (rest_count ∙ sym row_count) in let r = row_count in let c = count_vs in
          let f = two_fit m codes (is_none d.recon) (rows_of vs) dv.rests (omega arith) D.well_formed in let e = ap weight P.leaves in omega arith))
          (λ h. h) (cases_lt (length ls) 2)

-- what was divided, as the code has it
pub parts_as : (rows rows2 : List RowAt) (dv : Division) (p : Parts) → rows ≡ rows2 → ArePartsOf rows dv p → ArePartsOf rows2 dv p
parts_as rows rows2 dv p e P = subst (λ z. ArePartsOf z dv p) e P
