-- A put names exactly the blocks that it writes.
use Rattle.std.proofs.Common.{◌≡◌, ℕ, zero, suc, ◌+◌, ◌≤◌, ◌<◌, List, [], ◌∷◌, ⊎_elim, Option, Some, None, get_or, get_or-set_same, set, length, refl, sym, ap, ◌∙◌, subst, inl, arith}
use Rattle.spg_opclass.specs.Meaning.{Meaning}
use Rattle.spg_forest.specs.View.{Place, Leaf}
use Rattle.spg_forest.specs.Spot.{Frame}
use Rattle.spg_forest.specs.Tuples.{Tuple, Inner, Live, Dead, Redirect, Placeholder, put_on}
use Rattle.spg_forest.specs.Pages.{place, tuple_on, with_tuple}
use Rattle.spg_forest.specs.Sheets.{free_place, size_of, links, linked}
use Rattle.spg_forest.specs.Shape.{Shape}
use Rattle.spg_forest.specs.Edits.{added}
use Rattle.spg_forest.specs.Exact.{IsExact}
use Rattle.spg_forest.proofs.Chain.{put_on_same}
use Rattle.spg_forest.proofs.Edits.{tuple_on-with}
use Rattle.spg_forest.proofs.Exact.{differs, exact_one, exact_two}
use Rattle.spg_page.specs.Kinds.{IsOffset}
use Rattle.spg_page.proofs.SheetFacts.{free_place_free, free_place_length}
use Rattle.spg_chain.proofs.Laid.{with_tuple_at, added_behind}
use Rattle.spg_chain.specs.Chains.{IsChainedPage, BeginsChain, chain_members, offsets_of}
use Rattle.spg_chain.specs.Taken.{emptied}
use Rattle.spg_chain.proofs.Taking.{dead_within, emptied_head}
use Rattle.spg_tree.specs.Table.{Table, sheets_of, tuples_at, tuple_at, with_tuples_at, with_touched}
use Rattle.spg_tree.proofs.Pages.{tuples_same, tuples_other, pages_same}
use Rattle.spg_tree.specs.Pick.{Picks}
use Rattle.spg_tree.specs.Picked.{IsPicked}
use Rattle.spg_tree.specs.Descents.{Descending, in_nulls}
use Rattle.spg_tree.specs.declared.stand.Stand.{Stand}
use Rattle.spg_tree.specs.declared.stand.Stand.TheVariants.{Root, At}
use Rattle.spg_descend.specs.Carried.{carried}
use Rattle.spg_descend.specs.Puts.{IsAtLeaves, IsAtEmpty, leaf_want}
use Rattle.spg_descend.specs.PutTables.{below_node}
use Rattle.spg_descend.proofs.EmptyLaw.{at_empty, picked_ready, IsReady}
use Rattle.spg_descend.proofs.Picked.{PicksLeaf, picks_leaf, new_at_end}

-- ---- pages with other tuples

-- one page has other tuples
pub exact_page : (t : Table) (b : ℕ) (us : List Tuple) → b < length t.pages → (us ≡ tuples_at t b → ⊥) → IsExact (sheets_of t) (sheets_of (with_touched (with_tuples_at t b us) (b ∷ []))) (b ∷ [])
exact_page t b us h n = exact_one (sheets_of t) (sheets_of (with_touched (with_tuples_at t b us) (b ∷ []))) b (inl (λ e. n (sym (tuples_same t b us h) ∙ e))) (let e = pages_same t b us in omega arith)

-- another tuple in the place of one
pub put_differs : (ts : List Tuple) (o : ℕ) (u : Tuple) → IsOffset ts o → (u ≡ tuple_on ts o → ⊥) → with_tuple ts o u ≡ ts → ⊥
put_differs ts o u w n = differs (with_tuple ts o u) ts o
    (λ e. n (sym (ap (λ (T : ℕ → Tuple). T o) (tuple_on-with ts o u w.0 (let h = w.1 in omega arith)) ∙ put_on_same (tuple_on ts) o u o refl) ∙ e))

-- a redirect in the place of a chain
pub taken_differs : (ts : List Tuple) (h : ℕ) (to : Place) (stamp : ℕ) → IsChainedPage ts → BeginsChain ts h → with_tuple (emptied ts (offsets_of (chain_members ts h))) h (Redirect to stamp) ≡ ts → ⊥
taken_differs ts h to stamp C B =
    let us : List Tuple = emptied ts (offsets_of (chain_members ts h)) in
    let w : IsOffset us h = (emptied_head ts h C B).0 in
    let a : tuple_on (with_tuple us h (Redirect to stamp)) h ≡ Redirect to stamp = ap (λ (T : ℕ → Tuple). T h) (tuple_on-with us h (Redirect to stamp) w.0 (let k = w.1 in omega arith)) ∙ put_on_same (tuple_on us) h (Redirect to stamp) h refl in
    differs (with_tuple us h (Redirect to stamp)) ts h (λ e. ⊎_elim
    (λ d. let q : Redirect to stamp ≡ Dead = sym a ∙ e ∙ d in cc)
    (λ (l, n, d, k). let q : Redirect to stamp ≡ Live l n = sym a ∙ e ∙ d in cc) B)

-- a leaf put at a free place
pub free_differs : (ts : List Tuple) (u : Tuple) → (u ≡ Placeholder → ⊥) → with_tuple ts (suc (free_place ts)) u ≡ ts → ⊥
free_differs ts u n = differs (with_tuple ts (suc (free_place ts)) u) ts (suc (free_place ts))
    (λ e. n (sym (with_tuple_at ts (free_place ts) u (free_place_length ts)) ∙ e ∙ free_place_free ts))

-- a leaf behind a head, or alone
pub behind_differs : (ts : List Tuple) (h o : ℕ) (l new : Leaf) (n : ℕ) → o ≡ suc (free_place ts) → tuple_on ts h ≡ Live l n → added ts h o new ≡ ts → ⊥
behind_differs ts zero o l new n e q = cc
behind_differs ts (suc j) o l new n e q =
    let f : ℕ = suc (free_place ts) in
    subst (λ (k : ℕ). added ts (suc j) k new ≡ ts → ⊥) (sym e)
    (differs (added ts (suc j) f new) ts f
    (λ a. let b : tuple_on (added ts (suc j) f new) f ≡ Live new n = ap (λ (T : ℕ → Tuple). T f) (added_behind ts j l new n q) ∙ put_on_same (put_on (tuple_on ts) (suc j) (Live l f)) f (Live new n) f refl in
    let c : Live new n ≡ Placeholder = sym b ∙ a ∙ free_place_free ts in cc))

pub alone_differs : (ts : List Tuple) (o : ℕ) (new : Leaf) → o ≡ suc (free_place ts) → added ts 0 o new ≡ ts → ⊥
alone_differs ts o new e = subst (λ (k : ℕ). added ts 0 k new ≡ ts → ⊥) (sym e) (free_differs ts (Live new 0) (λ q. cc))

-- another downlink at a node
pub link_differs : (ts : List Tuple) (o i : ℕ) (w : Frame) (ns : List (Option Place)) (y : Option Place) → 0 < o → o ≤ length ts → tuple_on ts o ≡ Inner w ns → i < length ns → (get_or ns i None ≡ y → ⊥) →
    with_tuple ts o (linked (tuple_on ts o) i y) ≡ ts → ⊥
link_differs ts o i w ns y g h e k n =
    let u : Tuple = linked (tuple_on ts o) i y in
    let a : tuple_on (with_tuple ts o u) o ≡ u = ap (λ (T : ℕ → Tuple). T o) (tuple_on-with ts o u g (omega arith)) ∙ put_on_same (tuple_on ts) o u o refl in
    let b : u ≡ Inner w (set ns i y) = ap (λ (v : Tuple). linked v i y) e in
    differs (with_tuple ts o u) ts o (λ q.
    let c : Inner w (set ns i y) ≡ Inner w ns = sym b ∙ sym a ∙ q ∙ e in
    let d : set ns i y ≡ ns = ap links c in
    n (sym (ap (λ gs. get_or gs i None) d) ∙ get_or-set_same ns i y None k))

-- ---- the puts

pub root_exact : {Key Recon Cond : Type 0} (m : Meaning Key Recon Cond) (t t2 : Table) (d : Descending Recon) (b : ℕ) (u : Tuple) → Shape m (sheets_of t) → d.stand ≡ Root b → IsAtLeaves (sheets_of t) (in_nulls d) d.stand → u ≡ Live (carried d) 0 →
    t2 ≡ with_touched (with_tuples_at t b (with_tuple (tuples_at t b) (suc (free_place (tuples_at t b))) u)) (b ∷ []) → IsExact (sheets_of t) (sheets_of t2) t2.touched
root_exact m t t2 d b u H s A q e =
    let (pos, low, leaf, nulls) = subst (λ (st : Stand). IsAtLeaves (sheets_of t) (in_nulls d) st) s A in
    let k : b < length t.pages = let c = H.pages.count in omega arith in
    subst (λ (z : Table). IsExact (sheets_of t) (sheets_of z) z.touched) (sym e)
    (exact_page t b (with_tuple (tuples_at t b) (suc (free_place (tuples_at t b))) u) k (free_differs (tuples_at t b) u (λ p. let c = sym q ∙ p in cc)))

pub behind_exact : {Key Recon Cond : Type 0} (m : Meaning Key Recon Cond) (t t2 : Table) (d : Descending Recon) (x : Place) (new l : Leaf) (n : ℕ) → d.stand ≡ At x → IsAtLeaves (sheets_of t) (in_nulls d) d.stand → tuple_at t x ≡ Live l n →
    t2 ≡ with_touched (with_tuples_at t x.block (added (tuples_at t x.block) x.offset (free_place (tuples_at t x.block) + 1) new)) (x.block ∷ []) → IsExact (sheets_of t) (sheets_of t2) t2.touched
behind_exact m t t2 d x new l n s A q e =
    let (g, b, nulls, (ls, sp)) = subst (λ (st : Stand). IsAtLeaves (sheets_of t) (in_nulls d) st) s A in
    subst (λ (z : Table). IsExact (sheets_of t) (sheets_of z) z.touched) (sym e)
    (exact_page t x.block (added (tuples_at t x.block) x.offset (free_place (tuples_at t x.block) + 1) new) b (behind_differs (tuples_at t x.block) x.offset (free_place (tuples_at t x.block) + 1) l new n (omega arith) q))

pub dead_exact : {Key Recon Cond : Type 0} (m : Meaning Key Recon Cond) (t t2 : Table) (d : Descending Recon) (x : Place) (u : Tuple) → d.stand ≡ At x → IsAtLeaves (sheets_of t) (in_nulls d) d.stand → tuple_at t x ≡ Dead → u ≡ Live (carried d) 0 →
    t2 ≡ with_touched (with_tuples_at t x.block (with_tuple (tuples_at t x.block) x.offset u)) (x.block ∷ []) → IsExact (sheets_of t) (sheets_of t2) t2.touched
dead_exact m t t2 d x u s A q v e =
    let ts : List Tuple = tuples_at t x.block in
    let (g, b, nulls, (ls, sp)) = subst (λ (st : Stand). IsAtLeaves (sheets_of t) (in_nulls d) st) s A in
    let w : IsOffset ts x.offset = dead_within ts x.offset q in
    subst (λ (z : Table). IsExact (sheets_of t) (sheets_of z) z.touched) (sym e)
    (exact_page t x.block (with_tuple ts x.offset u) b (put_differs ts x.offset u w (λ p. let c : Live (carried d) 0 ≡ Dead = sym v ∙ p ∙ q in cc)))

pub below_exact : {Key Recon Cond : Type 0} (m : Meaning Key Recon Cond) (t t1 t2 : Table) (d : Descending Recon) (b : ℕ) (x : Place) (i seat : ℕ) (new : Leaf) → Shape m (sheets_of t) → d.parent ≡ Some (x, i) → IsAtEmpty (sheets_of t) (in_nulls d) d.stand d.parent →
    Picks t (leaf_want d seat) b t1 → IsPicked t (leaf_want d seat) b t1 → t2 ≡ below_node t1 b x i new → IsExact (sheets_of t) (sheets_of t2) t2.touched
below_exact m t t1 t2 d b x i seat new H pa A Q P e =
    subst (λ (z : Table). IsExact (sheets_of t) (sheets_of z) z.touched) (sym e)
    (exact_two (sheets_of t) (sheets_of T) b x.block R.apart (inl at_b) (inl at_x) grown)
  where
    R : IsReady t1 b x i (size_of (Live (carried d) 0) + 4)
    R = picked_ready m t t1 d b x i seat H pa A Q P

    K : PicksLeaf t b t1
    K = picks_leaf t t1 (leaf_want d seat) b H.pages.count refl P Q

    T : Table
    T = below_node t1 b x i new

    us : List Tuple
    us = added (tuples_at t1 b) 0 (free_place (tuples_at t1 b) + 1) new

    ta : Table
    ta = with_tuples_at t1 b us

    y : Option Place
    y = Some (place b (free_place (tuples_at t1 b) + 1))

    vs : List Tuple
    vs = with_tuple (tuples_at ta x.block) x.offset (linked (tuple_at ta x) i y)

    count : length T.pages ≡ length t1.pages
    count = pages_same ta x.block vs ∙ pages_same t1 b us

    grown : (c : ℕ) → length t.pages ≤ c → c < length T.pages → c ≡ b
    grown c g h =
        let k : length T.pages ≡ length t1.pages = count in
        let more : length t1.pages ≤ length t.pages + 1 = K.more in
        let a : b ≡ length t.pages = new_at_end t t1 (leaf_want d seat) b refl Q (omega arith) in
        omega arith

    at_b : tuples_at T b ≡ tuples_at t b → ⊥
    at_b q =
        let a : tuples_at T b ≡ us = tuples_other ta x.block vs b R.apart ∙ tuples_same t1 b us P.there in
        alone_differs (tuples_at t1 b) (free_place (tuples_at t1 b) + 1) new (omega arith) (sym a ∙ q ∙ sym (P.tuples b))

    same_x : tuples_at ta x.block ≡ tuples_at t x.block
    same_x = tuples_other t1 b us x.block (λ k. R.apart (sym k)) ∙ P.tuples x.block

    at_x : tuples_at T x.block ≡ tuples_at t x.block → ⊥
    at_x q =
        let (st, (pos, hx, tree, (w, ns, f, hi, en))) = at_empty (sheets_of t) (in_nulls d) d.stand d.parent x i A pa in
        let there : x.block < length ta.pages = let l = pages_same t1 b us in let g = R.parent.1 in omega arith in
        let a : tuples_at T x.block ≡ vs = tuples_same ta x.block vs there in
        let within : IsOffset (tuples_at ta x.block) x.offset = subst (λ (ts : List Tuple). IsOffset ts x.offset) (sym (tuples_other t1 b us x.block (λ k. R.apart (sym k)))) R.within in
        link_differs (tuples_at ta x.block) x.offset i w ns y within.0 within.1 (ap (λ (ts : List Tuple). tuple_on ts x.offset) same_x ∙ f) hi (λ k. let c = sym en ∙ k in cc)
        (sym a ∙ q ∙ sym same_x)
