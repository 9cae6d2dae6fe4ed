-- Which inner tuple a division makes, and on which page.
use Rattle.std.proofs.Common.{◌≡◌, ℕ, zero, suc, ◌+◌, ◌-◌, ◌%◌, ◌≤◌, ◌<◌, nat_le, Bool, true, false, List, [], ◌∷◌, ◌++◌, ◌⊎◌, ⊎_elim, Option, Some, get_or, set, length, refl, sym, ap, ◌∙◌, subst, inl, inr, arith}
use Rattle.std.proofs.lemmas.Bool.{cases_eq, cases_lt, cond-true, le-leb}
use Rattle.std.proofs.lemmas.List.{get_or_past}
use Rattle.spg_forest.specs.View.{Place, Leaf}
use Rattle.spg_forest.specs.Tuples.{Tuple, Inner, Live, Dead, Redirect, Placeholder, put_on}
use Rattle.spg_forest.specs.Pages.{place, tuple_on, with_tuple}
use Rattle.spg_forest.specs.Sheets.{Sheet, blank, with_tuples, linked}
use Rattle.spg_forest.proofs.Chain.{put_on_same, put_on_other}
use Rattle.spg_forest.proofs.Edits.{tuple_on-with}
use Rattle.spg_page.specs.Changes.{added}
use Rattle.spg_page.specs.Kinds.{IsInner}
use Rattle.spg_page.specs.Reads.{frame_in}
use Rattle.spg_chain.specs.Chains.{chain_members, offsets_of}
use Rattle.spg_chain.specs.Taken.{emptied}
use Rattle.spg_tree.specs.Table.{Table, sheet_at, tuples_at, tuple_at, with_sheet, with_tuples_at, with_link}
use Rattle.spg_descend.specs.Makes.{MakesNone, MakesOne}
use Rattle.spg_split.specs.declared.plan.ListSize.{ListSize}
use Rattle.spg_split.specs.declared.parts.Parts.{Parts}
use Rattle.spg_split.specs.declared.homes.Homes.{Homes}
use Rattle.spg_split.specs.Homes.{AreHomes, PicksHomes, fits_above, inner_want, rest_want}
use Rattle.spg_split.specs.Parts.{PutsLists}
use Rattle.spg_split.specs.Placing.{placed, downlinks, taken_by, inner_root}
use Rattle.spg_split.specs.Writing.{taken_from, lists_table, linked_table, both_tables, both_links, cleared_table, table_below, MayPart}
use Rattle.spg_tree.specs.Writes.{new_place, added_table}
use Rattle.spg_split.proofs.Chaining.{placed_tuple}
use Rattle.spg_split.proofs.Written as written

-- on the page an inner tuple stands only where one stood
abbrev KeepsOut : List Tuple → List Tuple → Type 0
KeepsOut ts us = (j : ℕ) → IsInner (tuple_on us j) → IsInner (tuple_on ts j)

-- ---- one tuple of a page

append_cases : (ts : List Tuple) (u : Tuple) (j : ℕ) → (get_or (ts ++ u ∷ []) j Placeholder ≡ get_or ts j Placeholder) ⊎ (get_or (ts ++ u ∷ []) j Placeholder ≡ u)
append_cases [] u zero = inr refl
append_cases [] u (suc j) = inl refl
append_cases (t ∷ ts) u zero = inl refl
append_cases (t ∷ ts) u (suc j) = append_cases ts u j

-- a tuple is put where an inner one stood, or it is none
with_out : (ts : List Tuple) (o : ℕ) (u : Tuple) → (IsInner u → IsInner (tuple_on ts o)) → KeepsOut ts (with_tuple ts o u)
with_out ts zero u h j a = a
with_out ts (suc k) u h zero a = a
with_out ts (suc k) u h (suc j) a = ⊎_elim within behind (cases_lt k (length ts))
  where
    within : k < length ts → IsInner (tuple_on ts (suc j))
    within l =
        let e : tuple_on (with_tuple ts (suc k) u) (suc j) ≡ put_on (tuple_on ts) (suc k) u (suc j) = ap (λ (T : ℕ → Tuple). T (suc j)) (tuple_on-with ts (suc k) u (omega arith) (omega arith)) in
        ⊎_elim (λ q. subst (λ i. IsInner (tuple_on ts i)) (sym q) (h (subst IsInner (e ∙ put_on_same (tuple_on ts) (suc k) u (suc j) q) a)))
        (λ n. subst IsInner (e ∙ put_on_other (tuple_on ts) (suc k) u (suc j) n) a) (cases_eq (suc j) (suc k))

    behind : length ts ≤ k → IsInner (tuple_on ts (suc j))
    behind l =
        let e : tuple_on (with_tuple ts (suc k) u) (suc j) ≡ get_or (ts ++ u ∷ []) j Placeholder = ap (λ us. tuple_on us (suc j)) (cond-true (nat_le (length ts) k) (ts ++ u ∷ []) (set ts k u) (le-leb (length ts) k l)) in
        ⊎_elim (λ q. subst IsInner (e ∙ q) a)
        (λ q. let b : IsInner Placeholder = subst IsInner (get_or_past ts k Placeholder l) (h (subst IsInner (e ∙ q) a)) in cc) (append_cases ts u j)

-- each other tuple stays
with_other : (ts : List Tuple) (o : ℕ) (u : Tuple) (j : ℕ) → 0 < o → o ≤ suc (length ts) → (j ≡ o → ⊥) → tuple_on (with_tuple ts o u) j ≡ tuple_on ts j
with_other ts o u j h k n = ap (λ (T : ℕ → Tuple). T j) (tuple_on-with ts o u h k) ∙ put_on_other (tuple_on ts) o u j n

emptied_out : (ts : List Tuple) (os : List ℕ) → KeepsOut ts (emptied ts os)
emptied_out ts [] j a = a
emptied_out ts (o ∷ os) j a = with_out ts o Placeholder (λ e. cc) j (emptied_out (with_tuple ts o Placeholder) os j a)

taken_out : (ts : List Tuple) (o : ℕ) (to : Place) (stamp : ℕ) → KeepsOut ts (taken_from ts o to stamp)
taken_out ts o to stamp j a = let os : List ℕ = offsets_of (chain_members ts o) in emptied_out ts os j (with_out (emptied ts os) o (Redirect to stamp) (λ e. cc) j a)

placed_out : (ts : List Tuple) (L : ℕ → List Leaf) (k n : ℕ) → KeepsOut ts (placed ts L k n)
placed_out ts L k n j a = ⊎_elim (λ e. subst IsInner e a) (λ (i, l, m, b, e). let c : IsInner (Live l m) = subst IsInner e a in cc) (placed_tuple ts L k n j)

linked_inner : (u : Tuple) (i : ℕ) (y : Option Place) → IsInner (linked u i y) → IsInner u
linked_inner (Inner w ns) i y a = refl
linked_inner (Live l n) i y a = a
linked_inner Dead i y a = a
linked_inner (Redirect to stamp) i y a = a
linked_inner Placeholder i y a = a

-- ---- one page of a table

page_cases : (ss : List Sheet) (b : ℕ) (s : Sheet) (d : ℕ) → (get_or (set ss b s) d (blank false) ≡ get_or ss d (blank false)) ⊎ ((d ≡ b) × (get_or (set ss b s) d (blank false) ≡ s))
page_cases [] b s d = inl refl
page_cases (r ∷ ss) zero s zero = inr (refl, refl)
page_cases (r ∷ ss) zero s (suc d) = inl refl
page_cases (r ∷ ss) (suc b) s zero = inl refl
page_cases (r ∷ ss) (suc b) s (suc d) = ⊎_elim (λ e. inl e) (λ (e, f). inr (ap suc e, f)) (page_cases ss b s d)

at_block : (x : Place) (b : ℕ) → x.block ≡ b → x ≡ place b x.offset
at_block x b e i = record { block = e i; offset = x.offset }

sheet_one : (t : Table) (b : ℕ) (s : Sheet) (z : Place) → ((j : ℕ) → (place b j ≡ z → ⊥) → IsInner (tuple_on s.tuples j) → IsInner (tuple_on (tuples_at t b) j)) → MakesOne t (with_sheet t b s) z
sheet_one t b s z h x n a = ⊎_elim
    (λ e. subst (λ (r : Sheet). IsInner (tuple_on r.tuples x.offset)) e a)
    (λ (q, e). subst (λ i. IsInner (tuple_on (tuples_at t i) x.offset)) (sym q)
    (h x.offset (λ c. n (at_block x b q ∙ c)) (subst (λ (r : Sheet). IsInner (tuple_on r.tuples x.offset)) e a))) (page_cases t.pages b s x.block)

sheet_none : (t : Table) (b : ℕ) (s : Sheet) → KeepsOut (tuples_at t b) s.tuples → MakesNone t (with_sheet t b s)
sheet_none t b s h x a = ⊎_elim
    (λ e. subst (λ (r : Sheet). IsInner (tuple_on r.tuples x.offset)) e a)
    (λ (q, e). subst (λ i. IsInner (tuple_on (tuples_at t i) x.offset)) (sym q) (h x.offset (subst (λ (r : Sheet). IsInner (tuple_on r.tuples x.offset)) e a))) (page_cases t.pages b s x.block)

-- ---- the division of a root leaf page

-- of a page with one tuple all but the first offset is free
one_tuple : (u : Tuple) (b j : ℕ) → (place b j ≡ place b 1 → ⊥) → IsInner (tuple_on (u ∷ []) j) → ⊥
one_tuple u b zero n a = cc
one_tuple u b (suc zero) n a = n refl
one_tuple u b (suc (suc j)) n a = cc

pub root_makes : (t t2 : Table) (root seat : ℕ) (p : Parts) (leaves : List Tuple) → PutsLists t t2 root seat p leaves → MakesOne t t2 (place root 1)
root_makes t t2 root seat p leaves W x n a =
    let t1 : Table = W.picked in
    let b : ℕ = W.block in
    let L : ℕ → List Leaf = λ j. taken_by j leaves p.node_of in
    let k : ℕ = length p.links in
    let tb : Table = with_tuples_at t1 b (placed (tuples_at t1 b) L 0 k) in
    let inner : Sheet = inner_root (sheet_at t1 root).nulls p.inner (downlinks b (tuples_at t1 b) L 0 k) in
    let here : IsInner (tuple_at (with_sheet tb root inner) x) = subst (λ (u : Table). IsInner (tuple_at u x)) W.after a in
    let lists : IsInner (tuple_at tb x) = sheet_one tb root inner (place root 1) (λ j m c. absurd (one_tuple (Inner (frame_in p.inner) (downlinks b (tuples_at t1 b) L 0 k)) root j m c)) x n here in
    let before : IsInner (tuple_at t1 x) = sheet_none t1 b (with_tuples (sheet_at t1 b) (placed (tuples_at t1 b) L 0 k)) (placed_out (tuples_at t1 b) L 0 k) x lists in
    subst (λ ts. IsInner (tuple_on ts x.offset)) (W.is_picked.tuples x.block) before

-- ---- the division of a chain

-- the inner tuple is on the block above, or on one of the next parity
pub homes_next : (t t2 : Table) (b p need seat : ℕ) (rest : ListSize) (h : Homes) → PicksHomes t t2 b p need rest seat h → (h.inner ≡ p) ⊎ (h.inner % 3 ≡ (p % 3 + 1) % 3)
homes_next t t2 b p need seat rest h H = go (fits_above t p need) (nat_le 1 rest.tuples) H
  where
    go : (here away : Bool) → AreHomes here away t t2 b p (inner_want (sheet_at t b).nulls p need seat) (rest_want (sheet_at t b).nulls b rest seat) h → (h.inner ≡ p) ⊎ (h.inner % 3 ≡ (p % 3 + 1) % 3)
    go true false (e, r, f) = inl e
    go true true (e, Q, P) = inl e
    go false false (r, Q, P) = inr P.parity
    go false true (Q, P) = inr P.first.parity

module _ (t : Table) (x p : Place) (i q c : ℕ) (inner : Tuple) (L : ℕ → List Leaf) (k n : ℕ) (M : MayPart t x p i q c inner L k n) where
  abbrev t0 : Table
  t0 = added_table t q inner

  abbrev t1 : Table
  t1 = cleared_table t x q inner

  abbrev tb : Table
  tb = lists_table t1 x.block L 0 k

  abbrev t3 : Table
  t3 = both_tables t1 x.block c L k n

  abbrev ds : List (Option Place)
  ds = both_links t1 x.block c L k n

  abbrev z : Place
  z = new_place t q

  abbrev t4 : Table
  t4 = linked_table t3 z ds

  -- the tuple is added
  one_added : MakesOne t t0 z
  one_added = sheet_one t q (with_tuples (sheet_at t q) (added (tuples_at t q) inner)) z
      (λ j m a. subst IsInner (ap (λ (T : ℕ → Tuple). T j) (written.free_at (tuples_at t q) inner) ∙ put_on_other (tuple_on (tuples_at t q)) z.offset inner j (λ e. m (ap (place q) e))) a)

  -- the chain is taken away, and its lists are put
  none_taken : MakesNone t0 t1
  none_taken = sheet_none t0 x.block (with_tuples (sheet_at t0 x.block) (taken_from (tuples_at t0 x.block) x.offset z t.clock)) (taken_out (tuples_at t0 x.block) x.offset z t.clock)

  none_first : MakesNone t1 tb
  none_first = sheet_none t1 x.block (with_tuples (sheet_at t1 x.block) (placed (tuples_at t1 x.block) L 0 k)) (placed_out (tuples_at t1 x.block) L 0 k)

  none_second : MakesNone tb t3
  none_second = sheet_none tb c (with_tuples (sheet_at tb c) (placed (tuples_at tb c) L k (n - k))) (placed_out (tuples_at tb c) L k (n - k))

  -- the downlinks are set
  one_linked : MakesOne t3 t4 z
  one_linked = sheet_one t3 q (with_tuples (sheet_at t3 q) (with_tuple (tuples_at t3 q) z.offset (Inner (frame_in (tuple_at t3 z)) ds))) z
      (λ j m a. let o = written.z_offset t x p i q c inner L k n M in subst IsInner (with_other (tuples_at t3 q) z.offset (Inner (frame_in (tuple_at t3 z)) ds) j o.0 (let b = o.1 in omega arith) (λ e. m (ap (place q) e))) a)

  none_relinked : MakesNone t4 (with_link t4 p i (Some z))
  none_relinked = sheet_none t4 p.block (with_tuples (sheet_at t4 p.block) (with_tuple (tuples_at t4 p.block) p.offset (linked (tuple_at t4 p) i (Some z))))
      (with_out (tuples_at t4 p.block) p.offset (linked (tuple_at t4 p) i (Some z)) (linked_inner (tuple_at t4 p) i (Some z)))

  pub chain_makes : MakesOne t (table_below t x p i q c inner L k n) (new_place t q)
  chain_makes y m a = one_added y m (none_taken y (none_first y (none_second y (one_linked y m (none_relinked y a)))))
