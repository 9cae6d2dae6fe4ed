-- An insert at a short chain: what is known of the chain, of the tuple above, and of the page that is picked.
use Rattle.std.proofs.Common.{◌≡◌, ℕ, suc, ◌+◌, ◌≤◌, ◌<◌, Bool, true, false, List, [], ◌∷◌, ◌⊎◌, ⊎_elim, Option, Some, None, get_or, set, length, refl, sym, ap, ap₂, ◌∙◌, subst, inl, inr, arith}
use Rattle.std.proofs.lemmas.Bool.{cases_lt}
use Rattle.spg_base.specs.Row.{RowAt}
use Rattle.spg_opclass.specs.Meaning.{Meaning}
use Rattle.spg_forest.specs.View.{Place, Leaf}
use Rattle.spg_forest.specs.Spot.{Frame, Spot, Bucket, IsIn}
use Rattle.spg_forest.specs.Tuples.{Tuple, Inner, Live, Redirect, Placeholder, IsLaidOut}
use Rattle.spg_forest.specs.Pages.{place, tuple_on, with_tuple, all_live, moved, page_of}
use Rattle.spg_forest.specs.Sheets.{Sheet, Sheets, sheet_at, with_tuples, pages_of, weight, size_of, free_place, links, linked}
use Rattle.spg_forest.specs.Shape.{Shape, spots, IsKindOf, IsRestOf}
use Rattle.spg_forest.specs.Section.{Adds}
use Rattle.spg_forest.specs.Exact.{IsExact}
use Rattle.spg_forest.specs.Edits.{CanPut}
use Rattle.spg_forest.specs.Puts.{IsComing}
use Rattle.spg_forest.proofs.Edits.{sheet_laid, page_is}
use Rattle.spg_forest.proofs.Exact.{exact_three}
use Rattle.spg_forest.proofs.Flat.{none_on}
use Rattle.spg_forest.proofs.Picks.{picked_shape, picked_spots, adds_after_pick}
use Rattle.spg_forest.proofs.Relocate.{within_from_some}
use Rattle.spg_forest.proofs.Sections.{shape_shown}
use Rattle.spg_forest.proofs.Stock.{tuple_is}
use Rattle.spg_page.specs.Kinds.{IsOffset, IsInner}
use Rattle.spg_page.specs.Reads.{leaf_in}
use Rattle.spg_page.specs.declared.tuple.PageKind.TheVariants as kinds
use Rattle.spg_chain.specs.Chains.{Member, chain_members, leaves_of, IsChainAt, IsChainedPage, BeginsChain}
use Rattle.spg_chain.proofs.Shown.{reads_shown, laid_chained, shown_begins}
use Rattle.spg_tree.specs.Table.{Table, sheets_of, tuples_at, tuple_at, with_tuples_at, with_link}
use Rattle.spg_tree.specs.Table as table
use Rattle.spg_tree.specs.Pick.{Picks}
use Rattle.spg_tree.specs.Picked.{IsPicked, want_of}
use Rattle.spg_tree.specs.Descents.{Descending, in_nulls}
use Rattle.spg_tree.specs.declared.stand.Stand.{Stand}
use Rattle.spg_tree.specs.declared.stand.Stand.TheVariants.{At}
use Rattle.spg_descend.specs.Below.{IsAtChain, IsChainBelow, IsLink, IsTicked}
use Rattle.spg_descend.specs.Carried.{carried, IsCarried, WayFits}
use Rattle.spg_descend.specs.Follows.{tuple_place}
use Rattle.spg_descend.specs.Makes.{MakesNone}
use Rattle.spg_descend.specs.Puts.{IsAtLeaves}
use Rattle.spg_descend.specs.Rules.{MayMove, IsShort}
use Rattle.spg_descend.proofs.EmptyLaw.{inner_within}
use Rattle.spg_descend.proofs.Makes.{makes_same, makes_none_at, makes_linked}
use Rattle.spg_descend.proofs.Exact.{link_differs, taken_differs}
use Rattle.spg_descend.proofs.Picked.{PicksLeaf, picks_leaf, new_at_end}
use Rattle.spg_descend.proofs.PutLaws.{bucket_tuple, kind_kept}
use Rattle.spg_chain.specs.Listed.{chained, leaves_in, HaveRoom}
use Rattle.spg_chain.proofs.Listing.{list_tuple}
use Rattle.spg_chain.proofs.LiveLists.{leaves_in_live, length-all_live}
use Rattle.spg_chain.proofs.ListTotals.{chained_differs}
use Rattle.spg_tree.proofs.Pages.{tuples_same, tuples_other, pages_same}
use Rattle.spg_move.specs.Moves.{MovesCarried, carried_want, move_cost}
use Rattle.spg_move.specs.Moving.{with_new, chain_leaves, chain_want, left, moved_table}
use Rattle.spg_move.proofs.Leaving.{chain_leaf, left_tuple, linked as linked_there}
use Rattle.spg_move.proofs.MoveLaw.{moves, at_p_x}

leaves_length : (ms : List Member) → length (leaves_of ms) ≡ length ms
leaves_length [] = refl
leaves_length (m ∷ ms) = ap suc (leaves_length ms)

with_new_weight : (ls : List Leaf) (new : Leaf) → weight (all_live (with_new ls new)) ≡ weight (all_live ls) + (size_of (Live new 0) + 4)
with_new_weight [] new = omega arith
with_new_weight (l ∷ ls) new = omega arith

with_new_count : (ls : List Leaf) (new : Leaf) → length (with_new ls new) ≡ length ls + 1
with_new_count [] new = refl
with_new_count (l ∷ ls) new = omega arith

in_with_new : (ls : List Leaf) (new l : Leaf) → IsIn l (with_new ls new) → (new ≡ l) ⊎ IsIn l ls
in_with_new [] new l (inl e) = inl e
in_with_new [] new l (inr a) = absurd a
in_with_new (k ∷ ks) new l (inl e) = inr (inl e)
in_with_new (k ∷ ks) new l (inr (inl e)) = inl e
in_with_new (k ∷ ks) new l (inr (inr a)) = inr (inr a)

module _ {Key Recon Cond : Type 0} (m : Meaning Key Recon Cond) (t : Table) (d : Descending Recon) (x p : Place) (i : ℕ) (H : Shape m (sheets_of t)) (st : d.stand ≡ At x) (pa : d.parent ≡ Some (p, i)) (A : IsAtChain t d) (M : MayMove t d.stand (Live (carried d) 0)) where
  abbrev S : Sheets
  S = sheets_of t

  abbrev pub ls : List Leaf
  ls = chain_leaves (tuples_at t x.block) x.offset

  abbrev pub vs : List Leaf
  vs = with_new ls (carried d)

  at : IsAtLeaves S (in_nulls d) (At x) × IsLink t p i x
  at = subst (λ (z : Option (Place × ℕ)). IsChainBelow t (in_nulls d) (At x) z) pa (subst (λ (z : Stand). IsChainBelow t (in_nulls d) z d.parent) st A)

  high : 3 ≤ x.block
  high = at.0.0

  there : x.block < length t.pages
  there = at.0.1

  tree : (table.sheet_at t x.block).nulls ≡ in_nulls d
  tree = at.0.2

  laid : IsLaidOut (tuple_on (tuples_at t x.block)) (λ o. spots S (place x.block o))
  laid = sheet_laid S (spots S) x.block high (shape_shown m S H)

  read : (ks : List Leaf) × (spots S x ≡ Bucket ks) × IsChainAt (tuple_on (tuples_at t x.block)) x.offset (chain_members (tuples_at t x.block) x.offset) ks
  read = let (ks, sp) = at.0.3 in (ks, sp, reads_shown (tuples_at t x.block) x.offset (λ o. spots S (place x.block o)) ks laid sp)

  shows : spots S x ≡ Bucket ls
  shows = let (ks, sp, R) = read in sp ∙ ap Bucket (sym R.leaves)

  chained_there : IsChainedPage (tuples_at t x.block)
  chained_there = laid_chained (tuples_at t x.block) (λ o. spots S (place x.block o)) laid

  begins_there : BeginsChain (tuples_at t x.block) x.offset
  begins_there = shown_begins (tuples_at t x.block) (λ o. spots S (place x.block o)) laid x.offset ls shows

  short : IsShort (chain_members (tuples_at t x.block) x.offset) (Live (carried d) 0)
  short = (subst (λ (z : Stand). MayMove t z (Live (carried d) 0)) st M).1

  pub total : weight (all_live ls) + (size_of (Live (carried d) 0) + 4) ≤ 8160
  total = let (ks, sp, R) = read in let a = short.fits in let b = R.bytes in let e = ap (λ zs. weight (all_live zs)) R.leaves in omega arith

  pub few : length ls < 64
  few = let a = short.tuples in let b = leaves_length (chain_members (tuples_at t x.block) x.offset) in omega arith

  leaf_there : (table.sheet_at t x.block).inner ≡ false
  leaf_there =
      let k = (H.pages.each x.block).kinds x.offset in
      let K : Tuple → Type 0 = λ u. IsKindOf m (table.sheet_at t x.block).inner (table.sheet_at t x.block).nulls u in
      ⊎_elim (λ (e, q). subst K e k) (λ (l, ms, n, e, q). (subst K e k).0) (bucket_tuple m S x ls H high shows)

  above : (w : Frame) × (ns : List (Option Place)) × (tuple_at t p ≡ Inner w ns) × (get_or ns i None ≡ Some x)
  above = at.1.1

  inner_there : (table.sheet_at t p.block).inner ≡ true
  inner_there = let (w, ns, e, l) = above in (subst (λ (u : Tuple). IsKindOf m (table.sheet_at t p.block).inner (table.sheet_at t p.block).nulls u) e ((H.pages.each p.block).kinds p.offset)).0

  p_not_x : p.block ≡ x.block → ⊥
  p_not_x e = let a : true ≡ false = sym inner_there ∙ ap (λ (c : ℕ). (table.sheet_at t c).inner) e ∙ leaf_there in cc

  p_within : IsOffset (tuples_at t p.block) p.offset
  p_within = let (w, ns, e, l) = above in inner_within (tuples_at t p.block) p.offset w ns e

  p_positive : 0 < p.block
  p_positive = ⊎_elim (λ h. h) (λ h. absurd (meta (omega arith))) (cases_lt 0 p.block)
    where
      meta : p.block ≡ 0 → ⊥
      meta z =
          let (w, ns, e, l) = above in
          let n : tuples_at t p.block ≡ [] = sym (page_is S p.block) ∙ ap (page_of (pages_of S)) z ∙ H.links.meta in
          let c = sym (none_on (tuples_at t p.block) p.offset n) ∙ e in cc

  -- the pick for the chain at which the insert stands
  pub want_there : (seat : ℕ) → chain_want (in_nulls d) vs x.block seat ≡ carried_want t d seat
  want_there seat = ap (λ (z : Place). chain_want (in_nulls d) (with_new (chain_leaves (tuples_at t z.block) z.offset) (carried d)) z.block seat) (sym (ap tuple_place st))

  -- what the code counts
  module _ (page : Sheet) (us s : List Tuple) (u : Tuple) (r : RowAt) (rest : List ℕ) (n k c : ℕ) (pe : page ≡ table.sheet_at t x.block) (ue : us ≡ all_live (chain_leaves page.tuples x.offset)) (se : s ≡ us) (re : r ≡ d.row) (qe : rest ≡ d.rest) (ne : u ≡ Live (record { row = r; rest = rest }) 0)
      (be : n ≡ weight s) (ke : k ≡ size_of u) (ce : c ≡ length us) where
    pub us_are : us ≡ all_live ls
    us_are = ue ∙ ap (λ (z : Sheet). all_live (chain_leaves z.tuples x.offset)) pe

    pub new_is : u ≡ Live (carried d) 0
    new_is = ne ∙ ap₂ (λ (a : RowAt) (b : List ℕ). Live (record { row = a; rest = b }) 0) re qe

    pub need_is : n + k + 4 ≡ weight (all_live vs)
    need_is = let a = ap weight (se ∙ us_are) in let b = ap size_of new_is in let w = with_new_weight ls (carried d) in omega arith

    pub need_small : n + k + 4 ≤ 8160
    need_small = let a = need_is in let w = with_new_weight ls (carried d) in let b = total in omega arith

    pub count_is : c + 1 ≡ length vs
    count_is = let a = ap length us_are in let b = length-all_live ls in let w = with_new_count ls (carried d) in omega arith

    pub count_small : c + 1 < 65
    count_small = let a = ap length us_are in let b = length-all_live ls in let w = few in omega arith

    pub want_is : (nulls : Bool) (seat : ℕ) → nulls ≡ in_nulls d → want_of kinds.Leaf nulls None (n + k + 4) (c + 1) (Some x.block) seat ≡ chain_want (in_nulls d) vs x.block seat
    want_is nulls seat e = ap₂ (λ (z : Bool) (a : ℕ). want_of kinds.Leaf z None a (c + 1) (Some x.block) seat) e need_is ∙ ap (λ (a : ℕ). want_of kinds.Leaf (in_nulls d) None (weight (all_live vs)) a (Some x.block) seat) count_is

    pub leaves_are : (s2 : List Tuple) → s2 ≡ us → with_new (leaves_in s2) (leaf_in u) ≡ vs
    leaves_are s2 e = ap₂ (λ (zs : List Tuple) (v : Tuple). with_new (leaves_in zs) (leaf_in v)) (e ∙ us_are) new_is ∙ ap (λ zs. with_new zs (carried d)) (leaves_in_live ls)

    pub live_are : (s2 : List Tuple) → s2 ≡ us → s2 ≡ all_live (leaves_in s2)
    live_are s2 e = subst (λ (zs : List Tuple). zs ≡ all_live (leaves_in zs)) (sym (e ∙ us_are)) (ap all_live (sym (leaves_in_live ls)))

  -- the picked page
  module _ (t1 : Table) (b seat : ℕ) (Q : Picks t (chain_want (in_nulls d) vs x.block seat) b t1) (P : IsPicked t (chain_want (in_nulls d) vs x.block seat) b t1) where
    abbrev S1 : Sheets
    S1 = sheets_of t1

    K : PicksLeaf t b t1
    K = picks_leaf t t1 (chain_want (in_nulls d) vs x.block seat) b H.pages.count refl P Q

    H1 : Shape m S1
    H1 = picked_shape m S S1 K.pages H

    es : spots S1 ≡ spots S
    es = picked_spots m S S1 K.pages H

    x_not_b : x.block ≡ b → ⊥
    x_not_b e = let k = P.not_avoided (ap Some e) in let h = there in absurd (omega arith)

    pub chained_after : IsChainedPage (tuples_at t1 x.block)
    chained_after = subst IsChainedPage (sym (P.tuples x.block)) chained_there

    pub begins_after : BeginsChain (tuples_at t1 x.block) x.offset
    begins_after = subst (λ (zs : List Tuple). BeginsChain zs x.offset) (sym (P.tuples x.block)) begins_there

    p_after : (w : Frame) (ns : List (Option Place)) → tuple_at t p ≡ Inner w ns → tuple_at t1 p ≡ Inner w ns
    p_after w ns e = ap (λ (zs : List Tuple). tuple_on zs p.offset) (P.tuples p.block) ∙ e

    p_not_b : p.block ≡ b → ⊥
    p_not_b q =
        let (w, ns, e, l) = above in
        let k = subst (λ (u : Tuple). IsKindOf m (sheet_at S1 p.block).inner (sheet_at S1 p.block).nulls u) (p_after w ns e) ((H1.pages.each p.block).kinds p.offset) in
        let a : (table.sheet_at t1 p.block).inner ≡ true = k.0 in
        let c : (table.sheet_at t1 p.block).inner ≡ false = subst (λ z. (table.sheet_at t1 z).inner ≡ false) (sym q) P.kind in
        let v : true ≡ false = sym a ∙ c in cc

    pub parent_after : (0 < p.block) × (p.block < length t1.pages) × (p.block ≡ b → ⊥) × (p.block ≡ x.block → ⊥)
    parent_after = (p_positive, (let h = at.1.0 in let k = P.least in omega arith), p_not_b, p_not_x)

    pub within_after : IsOffset (tuples_at t1 p.block) p.offset
    within_after = subst (λ (zs : List Tuple). IsOffset zs p.offset) (sym (P.tuples p.block)) p_within

    pub node_after : i < length (links (tuple_at t1 p))
    node_after = let (w, ns, e, l) = above in let a = ap (λ (u : Tuple). length (links u)) (p_after w ns e) in let k = within_from_some ns i x l in omega arith

    pub room_after : HaveRoom (tuples_at t1 b) vs
    room_after = record { fits = (H1.pages.each b).fits; room = P.room }

    -- the law
    abbrev y : Place
    y = place b (suc (free_place (tuples_at t1 b)))

    abbrev tb : Table
    tb = with_tuples_at t1 b (chained (tuples_at t1 b) 0 vs)

    abbrev tx : Table
    tx = with_tuples_at tb x.block (left (tuples_at tb x.block) x.offset y t1.clock)

    abbrev after : Tuple → Sheets
    after u = record { clock = t1.clock + 1; sheets = set tx.pages p.block (with_tuples (table.sheet_at tx p.block) (with_tuple (tuples_at tx p.block) p.offset u)) }

    rests : (key : Option Key) → IsCarried m S d key → (l : Leaf) → IsIn l vs → IsRestOf m (table.sheet_at t1 b).nulls l.rest
    rests key C l a = subst (λ (z : Bool). IsRestOf m z l.rest) (sym P.tree) (⊎_elim
        (λ e. subst (λ (z : Leaf). IsRestOf m (in_nulls d) z.rest) e C.rest)
        (λ c. let (o, n, e) = chain_leaf (tuple_on (tuples_at t x.block)) _ ls l (linked_there (tuples_at t x.block) (λ o. spots S (place x.block o)) laid x.offset ls shows) c in
        let k = subst (λ (u : Tuple). IsKindOf m (table.sheet_at t x.block).inner (table.sheet_at t x.block).nulls u) e ((H.pages.each x.block).kinds o) in
        subst (λ (z : Bool). IsRestOf m z l.rest) tree k.1) (in_with_new ls (carried d) l a))

    same_tree : (w : Frame) (ns : List (Option Place)) → tuple_at t p ≡ Inner w ns → get_or ns i None ≡ Some x → (table.sheet_at t1 b).nulls ≡ (table.sheet_at t1 p.block).nulls
    same_tree w ns e l = P.tree ∙ sym tree ∙ H.pages.trees p x w ns i (tuple_is S p ∙ e) l ∙ sym (ap (λ (s : Sheet). s.nulls) (K.others p.block p_not_b))

    coming : (key : Option Key) → IsCarried m S d key → IsComing m (spots S1) x d.recon (carried d) key
    coming key C = subst (λ (V : Place → Spot). IsComing m V x d.recon (carried d) key) (sym es) (record { fresh = C.fresh; fits = subst (λ (z : Stand). WayFits m S z d.parent d.recon key) st C.way; rebuilt = C.rebuilt })

    pub carried_moves : (t2 : Table) → t2 ≡ moved_table t1 b x p i vs → MovesCarried m t t2 d
    carried_moves t2 et key C =
        let (w, ns, e, l) = above in
        let h = there in let kk = P.least in
        let can : CanPut S1 p = record { block = parent_after.1; positive = within_after.0; within = let z = within_after.1 in omega arith } in
        let at_x : spots S1 x ≡ Bucket ls = ap (λ (V : Place → Spot). V x) es ∙ shows in
        let X = moves m S1 b x p i w ns ls (carried d) H1 P.from P.there P.kind high (omega arith) x_not_b at_x can (p_after w ns e) l p_not_b p_not_x (same_tree w ns e l) room_after (rests key C) d.recon key (coming key C) in
        let Y = adds_after_pick m S S1 (after (Inner w (set ns i (Some y)))) (b ∷ x.block ∷ p.block ∷ []) (record { pages = 0; ticks = 1; spread = 1 }) 1 d.row key (moved x y) H K.pages (λ c n. K.others c (λ z. n (inl z))) K.more X in
        let f : tuple_at tx p ≡ Inner w ns = at_p_x m S1 b x p i w ns ls (carried d) H1 P.from P.there P.kind high (omega arith) x_not_b at_x can (p_after w ns e) l p_not_b p_not_x (same_tree w ns e l) room_after (rests key C) in
        let Z : Adds m S (sheets_of (moved_table t1 b x p i vs)) (b ∷ x.block ∷ p.block ∷ []) move_cost d.row key (moved x y) =
        subst (λ (v : Tuple). Adds m S (after v) (b ∷ x.block ∷ p.block ∷ []) move_cost d.row key (moved x y)) (sym (ap (λ (v : Tuple). linked v i (Some y)) f)) Y in (
          y,
          subst (λ (z : Place). Adds m S (sheets_of t2) t2.touched move_cost d.row key (moved z y)) (sym (ap tuple_place st))
              (subst (λ (z : Table). Adds m S (sheets_of z) z.touched move_cost d.row key (moved x y)) (sym et) Z),
        )

    pub ticks : (t2 : Table) → t2 ≡ moved_table t1 b x p i vs → IsTicked t t2
    ticks t2 et = subst (λ (z : Table). IsTicked t z) (sym et) (record {
      latches = P.latches;
      clock = ap (λ n. n + 1) P.clock;
      counter = P.counter;
      limit = P.limit;
      roots = λ c h. kind_kept tx p.block (with_tuple (tuples_at tx p.block) p.offset (linked (tuple_at tx p) i (Some y))) c ∙ kind_kept tb x.block (left (tuples_at tb x.block) x.offset y t1.clock) c
          ∙ kind_kept t1 b (chained (tuples_at t1 b) 0 vs) c ∙ ap (λ (s : Sheet). s.inner) (K.others c (λ e. let k = P.from in absurd (omega arith)));
    })

    -- ---- no inner tuple is made
    chain_tuple : (o : ℕ) → IsInner (tuple_on (chained (tuples_at t1 b) 0 vs) o) → IsInner (tuple_on (tuples_at t1 b) o)
    chain_tuple o e = ⊎_elim (λ q. subst IsInner q e) (λ (l, n, a, q). let f : IsInner (Live l n) = subst IsInner q e in cc) (list_tuple (tuples_at t1 b) vs o)

    x_now : tuples_at tb x.block ≡ tuples_at t x.block
    x_now = tuples_other t1 b (chained (tuples_at t1 b) 0 vs) x.block x_not_b ∙ P.tuples x.block

    left_inner : (o : ℕ) → IsInner (tuple_on (left (tuples_at t x.block) x.offset y t1.clock) o) → IsInner (tuple_on (tuples_at t x.block) o)
    left_inner o e = ⊎_elim (λ q. subst IsInner q e)
        (λ k. ⊎_elim (λ q. let f : IsInner Placeholder = subst IsInner q e in cc) (λ (h, q). let f : IsInner (Redirect y t1.clock) = subst IsInner q e in cc) k)
        (left_tuple (tuples_at t x.block) (λ o. spots S (place x.block o)) laid x.offset ls shows y t1.clock o)

    pub makes_none : (t2 : Table) → t2 ≡ moved_table t1 b x p i vs → MakesNone t t2
    makes_none t2 et =
        let made_b : MakesNone t1 tb = makes_none_at t1 b (chained (tuples_at t1 b) 0 vs) chain_tuple in
        let made_x : MakesNone tb tx = makes_none_at tb x.block (left (tuples_at tb x.block) x.offset y t1.clock)
        (subst (λ (ts : List Tuple). (o : ℕ) → IsInner (tuple_on (left ts x.offset y t1.clock) o) → IsInner (tuple_on ts o)) (sym x_now) left_inner) in
        let made_p : MakesNone tx (with_link tx p i (Some y)) = makes_linked tx p i (Some y) in
        subst (λ (z : Table). MakesNone t z) (sym et) (λ z e. makes_same t t1 P.tuples z (made_b z (made_x z (made_p z e))))

    -- ---- the blocks named are those written
    abbrev T : Table
    T = moved_table t1 b x p i vs

    abbrev lp : List Tuple
    lp = with_tuple (tuples_at tx p.block) p.offset (linked (tuple_at tx p) i (Some y))

    abbrev lx : List Tuple
    lx = left (tuples_at tb x.block) x.offset y t1.clock

    count_b : length tb.pages ≡ length t1.pages
    count_b = pages_same t1 b (chained (tuples_at t1 b) 0 vs)

    count_x : length tx.pages ≡ length t1.pages
    count_x = pages_same tb x.block lx ∙ count_b

    count_t : length T.pages ≡ length t1.pages
    count_t = pages_same tx p.block lp ∙ count_x

    some_vs : 0 < length vs
    some_vs = let e = with_new_count ls (carried d) in omega arith

    p_was : tuples_at tx p.block ≡ tuples_at t p.block
    p_was = tuples_other tb x.block lx p.block p_not_x ∙ tuples_other t1 b (chained (tuples_at t1 b) 0 vs) p.block p_not_b ∙ P.tuples p.block

    b_written : tuples_at T b ≡ tuples_at t b → ⊥
    b_written q =
        let a : tuples_at T b ≡ chained (tuples_at t1 b) 0 vs = tuples_other tx p.block lp b (λ k. p_not_b (sym k)) ∙ tuples_other tb x.block lx b (λ k. x_not_b (sym k)) ∙ tuples_same t1 b (chained (tuples_at t1 b) 0 vs) P.there in
        chained_differs (tuples_at t1 b) vs some_vs (sym a ∙ q ∙ sym (P.tuples b))

    x_written : tuples_at T x.block ≡ tuples_at t x.block → ⊥
    x_written q =
        let h : x.block < length tb.pages = let a = there in let k = P.least in let e = count_b in omega arith in
        let a : tuples_at T x.block ≡ lx = tuples_other tx p.block lp x.block (λ k. p_not_x (sym k)) ∙ tuples_same tb x.block lx h in
        let e : lx ≡ left (tuples_at t x.block) x.offset y t1.clock = ap (λ (zs : List Tuple). left zs x.offset y t1.clock) x_now in
        taken_differs (tuples_at t x.block) x.offset y t1.clock chained_there begins_there (sym e ∙ sym a ∙ q)

    p_written : tuples_at T p.block ≡ tuples_at t p.block → ⊥
    p_written q =
        let (w, ns, e, l) = above in
        let h : p.block < length tx.pages = let a = parent_after.1 in let k = count_x in omega arith in
        let a : tuples_at T p.block ≡ lp = tuples_same tx p.block lp h in
        let within : IsOffset (tuples_at tx p.block) p.offset = subst (λ (zs : List Tuple). IsOffset zs p.offset) (sym p_was) p_within in
        link_differs (tuples_at tx p.block) p.offset i w ns (Some y) within.0 within.1 (ap (λ (zs : List Tuple). tuple_on zs p.offset) p_was ∙ e) (within_from_some ns i x l)
        (λ k. let c : Some x ≡ Some y = sym l ∙ k in let f : x ≡ y = cc in x_not_b (ap (λ (z : Place). z.block) f)) (sym a ∙ q ∙ sym p_was)

    new_is_b : (c : ℕ) → length t.pages ≤ c → c < length T.pages → c ≡ b
    new_is_b c g h =
        let k : length T.pages ≡ length t1.pages = count_t in
        let more : length t1.pages ≤ length t.pages + 1 = K.more in
        let a : b ≡ length t.pages = new_at_end t t1 (chain_want (in_nulls d) vs x.block seat) b refl Q (omega arith) in omega arith

    pub exact : (t2 : Table) → t2 ≡ moved_table t1 b x p i vs → IsExact S (sheets_of t2) t2.touched
    exact t2 et = subst (λ (z : Table). IsExact S (sheets_of z) z.touched) (sym et)
        (exact_three S (sheets_of T) b x.block p.block (λ e. x_not_b (sym e)) (λ e. p_not_b (sym e)) (λ e. p_not_x (sym e)) (inl b_written) (inl x_written) (inl p_written) new_is_b)
