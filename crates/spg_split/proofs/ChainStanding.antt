-- What is known where an insert stands at a chain that has no room and is long.
use Rattle.std.proofs.Common.{◌≡◌, ℕ, zero, suc, ◌+◌, ◌-◌, ◌≤◌, ◌<◌, ◌^◌, false, List, [], ◌∷◌, ◌++◌, ⊎_elim, Option, Some, None, is_none, IsSome, length, length-append, take, get_or, slice_index, refl, sym, ap, ◌∙◌, subst, inr, arith}
use Rattle.std.proofs.lemmas.Bool.{cases_lt}
use Rattle.std.proofs.lemmas.List.{length-map, length-replicate, get_or_past}
use Rattle.spg_opclass.specs.Meaning.{Meaning}
use Rattle.spg_opclass.specs.Laws.{CodeLaw, leaf_size}
use Rattle.spg_forest.specs.View.{Place, Leaf}
use Rattle.spg_forest.specs.Spot.{Frame, Spot, Bucket, IsIn, leaves_of as leaves_in_spot, NoRepeat}
use Rattle.spg_forest.specs.Tuples.{Tuple, Inner, Live, Dead, Placeholder, Shows, IsLaidOut, IsChainOf}
use Rattle.spg_forest.specs.Pages.{place, tuple_on, all_live}
use Rattle.spg_forest.specs.Classes.{class_of, key_of}
use Rattle.spg_forest.specs.Divisions.{rests_of}
use Rattle.spg_forest.specs.Fit.{FitAt}
use Rattle.spg_forest.specs.Sheets.{sheet_at, weight, size_of, links}
use Rattle.spg_forest.specs.Shape.{Shape, spots, IsKindOf}
use Rattle.spg_forest.proofs.Edits.{page_is, sheet_laid}
use Rattle.spg_forest.proofs.Sections.{shape_shown, shape_tree}
use Rattle.spg_forest.proofs.Stock.{tuple_is}
use Rattle.spg_forest.proofs.Trees.{recon_once}
use Rattle.spg_forest.proofs.FitWay.{recon_of_fit}
use Rattle.spg_forest.proofs.Flat.{none_on}
use Rattle.spg_page.specs.Kinds.{IsOffset}
use Rattle.spg_page.specs.Reads.{frame_in}
use Rattle.spg_chain.specs.Chains.{Member, IsChainAt, BeginsAt, chain_members, leaves_of, offsets_of, bytes_of}
use Rattle.spg_chain.specs.Taken.{emptied}
use Rattle.spg_chain.proofs.Shown.{reads_shown, laid_chained, shown_begins}
use Rattle.spg_tree.specs.Table.{Table, sheets_of, tuples_at, tuple_at}
use Rattle.spg_tree.specs.Descents.{Descending, in_nulls}
use Rattle.spg_tree.specs.declared.stand.Stand.{Stand}
use Rattle.spg_tree.specs.declared.stand.Stand.TheVariants.{At}
use Rattle.spg_descend.specs.Carried.{carried, IsCarried, WayFits}
use Rattle.spg_descend.specs.Puts.{IsAtLeaves}
use Rattle.spg_descend.specs.Rules.{MayMove}
use Rattle.spg_descend.specs.Below.{IsChainBelow, IsAtChain, IsLink}
use Rattle.spg_split.specs.declared.division.Division.{Division}
use Rattle.spg_split.specs.declared.parts.Parts.{Parts}
use Rattle.spg_split.specs.Dividing.{GiveKeys, IsDivided, rows_of}
use Rattle.spg_split.specs.Placing.{leaves_with}
use Rattle.spg_chain.specs.Listed.{leaves_in}
use Rattle.spg_split.specs.Parts.{ArePartsOf, AreReady}
use Rattle.spg_descend.specs.BareNodes.{bare}
use Rattle.spg_split.specs.Divides.{MayDivide}
use Rattle.spg_split.proofs.Emptying.{chain_emptied, gaps_least}
use Rattle.spg_chain.proofs.LiveLists.{leaves_in_live, length-all_live}
use Rattle.spg_chain.proofs.Room.{least_weight}
use Rattle.spg_split.proofs.Standing.{rest_fits, tuple_fits, two_fit, give_from, in_cases, no_repeat, slice_first}
use Rattle.spg_split.proofs.Taken.{with_length, without_last, lighter}

-- the leaves of a chain weigh no more than their page
chain_lighter : (ts : List Tuple) (Z : ℕ → Spot) (h : ℕ) (ls : List Leaf) → IsLaidOut (tuple_on ts) Z → Z h ≡ Bucket ls → weight (all_live ls) ≤ weight ts
chain_lighter ts Z h [] L s = omega arith
chain_lighter ts Z h (l ∷ ls) L s = let c = reads_shown ts h Z (l ∷ ls) L s in go (offsets_of (chain_members ts h)) c.begins c.linked
  where
    go : (os : List ℕ) → BeginsAt h os → IsChainOf (tuple_on ts) os (l ∷ ls) → weight (all_live (l ∷ ls)) ≤ weight ts
    go [] b c = absurd c
    go (o ∷ os) b c =
        let E = chain_emptied ts Z (o ∷ os) (l ∷ ls) L c (ap Z b ∙ s) in
        let a = E.weight_is in let g = E.gaps_is in let e = gaps_least (emptied ts (o ∷ os)) in omega arith

offset_there : (ts : List Tuple) (o : ℕ) (w : Frame) (ns : List (Option Place)) → tuple_on ts o ≡ Inner w ns → IsOffset ts o
offset_there ts zero w ns e = cc
offset_there ts (suc k) w ns e = ⊎_elim (λ h. (omega arith, omega arith)) (λ h. let a : Placeholder ≡ Inner w ns = sym (get_or_past ts k Placeholder h) ∙ e in cc) (cases_lt k (length ts))

link_within : (ns : List (Option Place)) (i : ℕ) (x : Place) → get_or ns i None ≡ Some x → i < length ns
link_within ns i x e = ⊎_elim (λ h. h) (λ h. let a : None ≡ Some x = sym (get_or_past ns i None h) ∙ e in cc) (cases_lt i (length ns))

module _ {Key Recon Cond : Type 0} (m : Meaning Key Recon Cond) (codes : CodeLaw m) (t : Table) (d : Descending Recon) (x p : Place) (i : ℕ) (H : Shape m (sheets_of t)) (st : d.stand ≡ At x) (pr : d.parent ≡ Some (p, i)) (A : IsAtChain t d)
    (K : (key : Option Key) × IsCarried m (sheets_of t) d key) where
  abbrev pub ls : List Leaf
  ls = leaves_of (chain_members (tuples_at t x.block) x.offset)

  abbrev pub vs : List Leaf
  vs = ls ++ carried d ∷ []

  pub at_chain : IsAtLeaves (sheets_of t) (in_nulls d) (At x) × IsLink t p i x
  at_chain = subst (λ (q : Option (Place × ℕ)). IsChainBelow t (in_nulls d) (At x) q) pr (subst (λ (s : Stand). IsChainBelow t (in_nulls d) s d.parent) st A)

  pub x_from : 3 ≤ x.block
  x_from = let (a, b) = at_chain in a.0

  pub x_there : x.block < length t.pages
  x_there = let (a, b) = at_chain in a.1

  pub x_nulls : (sheet_at (sheets_of t) x.block).nulls ≡ in_nulls d
  x_nulls = let (a, b) = at_chain in a.2

  laid : IsLaidOut (tuple_on (tuples_at t x.block)) (λ o. spots (sheets_of t) (place x.block o))
  laid = sheet_laid (sheets_of t) (spots (sheets_of t)) x.block x_from (shape_shown m (sheets_of t) H)

  read : (ks : List Leaf) → spots (sheets_of t) x ≡ Bucket ks → IsChainAt (tuple_on (tuples_at t x.block)) x.offset (chain_members (tuples_at t x.block) x.offset) ks
  read ks e = reads_shown (tuples_at t x.block) x.offset (λ o. spots (sheets_of t) (place x.block o)) ks laid e

  pub bucket : spots (sheets_of t) x ≡ Bucket ls
  bucket = let (a, b) = at_chain in let (ks, e) = a.3 in e ∙ ap Bucket (sym (read ks e).leaves)

  pub members_count : length (chain_members (tuples_at t x.block) x.offset) ≡ length ls
  members_count = sym (length-map (chain_members (tuples_at t x.block) x.offset) (λ (z : Member). z.leaf))

  pub carried_fits : leaf_size d.rest ≤ 8156
  carried_fits = let (key, C) = K in rest_fits m codes (in_nulls d) d.rest C.rest

  pub way : (key : Option Key) → IsCarried m (sheets_of t) d key → FitAt (class_of m) (spots (sheets_of t)) (Some key) x d.recon
  way key C = subst (λ (s : Stand). WayFits m (sheets_of t) s d.parent d.recon key) st C.way

  pub keys : GiveKeys m d.recon (rests_of vs)
  keys = let (key, C) = K in give_from m d.recon vs (λ l a. ⊎_elim
      (λ b. let (r, k, fit, e) = H.keys x l (subst (λ (s : Spot). IsIn l (leaves_in_spot s)) (sym bucket) b) in
      let q : r ≡ d.recon = recon_once (class_of m) (spots (sheets_of t)) t.clock (shape_tree m (sheets_of t) H) x r d.recon (recon_of_fit (class_of m) (spots (sheets_of t)) (Some k) x r fit) (recon_of_fit (class_of m) (spots (sheets_of t)) (Some key) x d.recon (way key C)) in
      subst (λ (o : Option (Option Key)). IsSome o) (sym (subst (λ (z : Option Recon). key_of m z l.rest ≡ Some k) q e)) refl)
      (λ e. subst (λ (u : Leaf). IsSome (key_of m d.recon u.rest)) e (subst (λ (o : Option (Option Key)). IsSome o) (sym C.rebuilt) refl)) (in_cases ls (carried d) l a))

  pub count_vs : length vs ≡ length ls + 1
  count_vs = length-append ls (carried d ∷ [])

  pub rests_count : length (rests_of vs) ≡ length ls + 1
  rests_count = length-map vs (λ (l : Leaf). l.rest) ∙ count_vs

  pub once : NoRepeat ls
  once = subst (λ (s : Spot). NoRepeat (leaves_in_spot s)) bucket ((shape_tree m (sheets_of t) H).once x)

  pub all_once : (key : Option Key) → IsCarried m (sheets_of t) d key → NoRepeat vs
  all_once key C = no_repeat ls (carried d) once (λ l a e. C.fresh x l (subst (λ (s : Spot). IsIn l (leaves_in_spot s)) (sym bucket) a) e)

  pub old_fits : weight (all_live ls) ≤ 8160
  old_fits = let a = chain_lighter (tuples_at t x.block) (λ o. spots (sheets_of t) (place x.block o)) x.offset ls laid bucket in let b = (H.pages.each x.block).fits in omega arith

  pub above : (w : Frame) × (ns : List (Option Place)) × (tuple_at t p ≡ Inner w ns) × (get_or ns i None ≡ Some x)
  above = let (a, b) = at_chain in b.1

  module _ (long : MayMove t d.stand (Live (carried d) 0) → ⊥) where
    pub one_there : 1 ≤ length ls
    one_there = ⊎_elim (λ h. absurd (long (subst (λ (s : Stand). MayMove t s (Live (carried d) 0)) (sym st) (dead (none ls (omega arith)))))) (λ h. h) (cases_lt (length ls) 1)
      where
        none : (ks : List Leaf) → length ks ≡ 0 → ks ≡ []
        none [] e = refl
        none (k ∷ ks) e = absurd (omega arith)

        dead : leaves_of (chain_members (tuples_at t x.block) x.offset) ≡ [] → MayMove t (At x) (Live (carried d) 0)
        dead e =
            let eb : spots (sheets_of t) x ≡ Bucket [] = bucket ∙ ap Bucket e in
            let T : tuple_at t x ≡ Dead = subst (λ (s : Spot). Shows (tuple_on (tuples_at t x.block)) x.offset s) eb (laid.shows x.offset) in
            let n : length (chain_members (tuples_at t x.block) x.offset) ≡ 0 = members_count ∙ ap length e in
            let b : bytes_of (chain_members (tuples_at t x.block) x.offset) ≡ 0 = (read [] eb).bytes in
            let f = carried_fits in
            (inr (rw T refl), record { bytes = omega arith; tuples = omega arith; fits = omega arith })

    pub several : 2 ≤ length (rests_of vs)
    several = let a = one_there in let b = count_vs in let c = length-map vs (λ (l : Leaf). l.rest) in omega arith

    pub may_divide : t.clock + 1 < 2 ^ 48 → MayDivide t x p i
    may_divide tick =
        let (w, ns, e, f) = above in let (a, link) = at_chain in record {
          x_from = x_from;
          x_there = x_there;
          x_leaf = leaf ls bucket one_there;
          p_from = ⊎_elim (λ h. h) (λ h. let z : p.block ≡ 0 = omega arith in let q : tuples_at t p.block ≡ [] = ap (tuples_at t) z ∙ sym (page_is (sheets_of t) 0) ∙ (shape_shown m (sheets_of t) H).meta in let g : Placeholder ≡ Inner w ns = sym (none_on (tuples_at t p.block) p.offset q) ∙ e in cc) (cases_lt 0 p.block);
          p_there = link.0;
          p_inner = (subst (λ (u : Tuple). IsKindOf m (sheet_at (sheets_of t) p.block).inner (sheet_at (sheets_of t) p.block).nulls u) e ((H.pages.each p.block).kinds p.offset)).0;
          tree = sym (H.pages.trees p x w ns i (tuple_is (sheets_of t) p ∙ e) f);
          fits = λ b. (H.pages.each b).fits;
          chained = laid_chained (tuples_at t x.block) (λ o. spots (sheets_of t) (place x.block o)) laid;
          begins = shown_begins (tuples_at t x.block) (λ o. spots (sheets_of t) (place x.block o)) laid x.offset ls bucket;
          some = let n = members_count in let o = one_there in omega arith;
          parent = offset_there (tuples_at t p.block) p.offset w ns e;
          node = let g = link_within ns i x f in let k = ap (λ u. length (links u)) e in omega arith;
          clock = tick;
        }
      where
        leaf : (ks : List Leaf) → spots (sheets_of t) x ≡ Bucket ks → 1 ≤ length ks → (sheet_at (sheets_of t) x.block).inner ≡ false
        leaf [] e h = absurd (omega arith)
        leaf (k ∷ ks) e h =
            let c = subst (λ (s : Spot). Shows (tuple_on (tuples_at t x.block)) x.offset s) e (laid.shows x.offset) in
            let (n, g, r) = c.0 in
            (subst (λ (u : Tuple). IsKindOf m (sheet_at (sheets_of t) x.block).inner (sheet_at (sheets_of t) x.block).nulls u) g ((H.pages.each x.block).kinds x.offset)).0

    module _ (dv : Division) (D : IsDivided m d.recon (rests_of vs) dv) (p2 : Parts) (P : ArePartsOf (rows_of vs) dv p2) where
      pub rest_count : length dv.rests ≡ length vs
      rest_count = D.rest_each ∙ length-map vs (λ (l : Leaf). l.rest)

      pub row_count : length (rows_of vs) ≡ length vs
      row_count = length-map vs (λ (l : Leaf). l.row)

      pub leaf_count : length p2.leaves ≡ length vs
      leaf_count = ap length P.leaves ∙ length-all_live (leaves_with (rows_of vs) dv.rests) ∙ with_length (rows_of vs) dv.rests (rest_count ∙ sym row_count) ∙ row_count

      pub node_count : length p2.node_of ≡ length vs
      node_count = ap length P.node_of ∙ D.node_each ∙ length-map vs (λ (l : Leaf). l.rest)

      pub link_count : length p2.links ≡ length dv.frame.labels
      link_count = ap length P.links ∙ length-replicate (length dv.frame.labels) None

      pub ready : AreReady p2
      ready = record {
        few = let a = leaf_count in let b = count_vs in let c = least_weight ls in let f = old_fits in omega arith;
        each = leaf_count ∙ sym node_count;
        leaves = P.leaves ∙ ap all_live (sym (leaves_in_live (leaves_with (rows_of vs) dv.rests)) ∙ ap leaves_in (sym P.leaves));
        there = λ i h. let e = ap length P.node_of in let q : slice_index p2.node_of i ≡ slice_index dv.node_of i = ap (λ ns. slice_index ns i) P.node_of in let b = D.there i (omega arith) in let l = link_count in omega arith;
        inner = P.inner ∙ ap (λ k. Inner dv.frame (bare k)) (sym link_count) ∙ ap (λ (u : Tuple). Inner (frame_in u) (bare (length p2.links))) (sym P.inner);
        count = let a = link_count in let b = tuple_fits m codes (is_none d.recon) dv.frame D.tuple in omega arith;
      }

      pub some_leaves : 0 < length p2.leaves
      some_leaves = let a = leaf_count in let b = count_vs in omega arith

      pub old_leaves : take (length p2.leaves - 1) p2.leaves ≡ all_live (leaves_with (rows_of ls) dv.rests)
      old_leaves =
          let e : length p2.leaves - 1 ≡ length ls = let a = leaf_count in let b = count_vs in omega arith in
          ap (λ k. take k p2.leaves) e ∙ ap (take (length ls)) P.leaves ∙ without_last ls (carried d) dv.rests rest_count

      pub others_fit : weight (take (length p2.leaves - 1) p2.leaves) ≤ 8160
      others_fit = rw old_leaves (let a = lighter ls dv.rests (λ i l q e f. D.not_longer i l.rest q (slice_first ls (carried d) l i e) f) in let f = old_fits in omega arith)

      pub many : 8160 < weight p2.leaves → 2 ≤ length ls
      many big = ⊎_elim
          (λ h. absurd (let n = with_length (rows_of vs) dv.rests (rest_count ∙ sym row_count) in let r = row_count in let c = count_vs in
          let f = two_fit m codes (is_none d.recon) (rows_of vs) dv.rests (omega arith) D.well_formed in let e = ap weight P.leaves in omega arith))
          (λ h. h) (cases_lt (length ls) 2)

      pub inner_fits : size_of p2.inner ≤ 8156
      inner_fits = let e = ap size_of P.inner in let n : length (bare (length dv.frame.labels)) ≡ length dv.frame.labels = length-replicate (length dv.frame.labels) None in let b = tuple_fits m codes (is_none d.recon) dv.frame D.tuple in omega arith
