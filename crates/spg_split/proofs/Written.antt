-- The table on its way to a divided chain.
use Rattle.std.proofs.Common.{◌≡◌, ℕ, zero, suc, ◌+◌, ◌-◌, ◌≤◌, ◌<◌, List, [], ◌∷◌, ◌++◌, Option, Some, ⊎_elim, length, length-append, length-set, slice_get, sym, ap, ap₂, ◌∙◌, subst, arith}
use Rattle.std.proofs.lemmas.Bool.{cases_eq}
use Rattle.spg_forest.specs.View.{Place, Leaf}
use Rattle.spg_forest.specs.Tuples.{Tuple, Inner, Placeholder, put_on}
use Rattle.spg_forest.specs.Pages.{place, tuple_on, with_tuple}
use Rattle.spg_forest.specs.Sheets.{free_place, links}
use Rattle.spg_forest.proofs.Chain.{put_on_other}
use Rattle.spg_forest.proofs.Edits.{tuple_on-with}
use Rattle.spg_forest.proofs.Writes.{with_tuple_longer}
use Rattle.spg_page.specs.Changes.{added}
use Rattle.spg_page.specs.Kinds.{IsOffset}
use Rattle.spg_page.specs.Reads.{frame_in}
use Rattle.spg_page.proofs.SheetFacts.{free_place_free, free_place_length}
use Rattle.spg_chain.specs.Chains.{IsChainedPage, BeginsChain}
use Rattle.spg_chain.proofs.Laid.{with_tuple_at, with_tuple_there}
use Rattle.spg_tree.specs.Table.{Table, tuples_at, tuple_at, with_link, with_clock}
use Rattle.spg_tree.proofs.Pages.{tuples_same, tuples_other, pages_same}
use Rattle.spg_descend.specs.BareNodes.{bare}
use Rattle.spg_split.specs.Placing.{downlinks}
use Rattle.spg_split.specs.Writing.{taken_from, taken_table, lists_table, linked_table, both_tables, both_links, cleared_table, table_below, MayPart}
use Rattle.spg_tree.specs.Writes.{new_place, added_table}
use Rattle.spg_split.proofs.Chaining.{downlinks_length, downlinks_positive}

-- a tuple at the free place of a page
pub free_at : (ts : List Tuple) (u : Tuple) → tuple_on (added ts u) ≡ put_on (tuple_on ts) (suc (free_place ts)) u
free_at ts u = let f = free_place_length ts in tuple_on-with ts (suc (free_place ts)) u (omega arith) (omega arith)

pub free_offset : (ts : List Tuple) (u : Tuple) → IsOffset (added ts u) (suc (free_place ts))
free_offset ts u = let a = with_tuple_there ts (free_place ts) u (free_place_length ts) in (omega arith, omega arith)

pub both_length : (t : Table) (b c : ℕ) (L : ℕ → List Leaf) (k n : ℕ) → k ≤ n → length (both_links t b c L k n) ≡ n
both_length t b c L k n h =
    let x : List (Option Place) = downlinks b (tuples_at t b) L 0 k in
    let y : List (Option Place) = downlinks c (tuples_at (lists_table t b L 0 k) c) L k (n - k) in
    let a = length-append x y in
    let d = downlinks_length b (tuples_at t b) L 0 k in
    let e = downlinks_length c (tuples_at (lists_table t b L 0 k) c) L k (n - k) in omega arith

pub both_positive : (t : Table) (b c : ℕ) (L : ℕ → List Leaf) (k n i : ℕ) (y : Place) → 0 < b → 0 < c → slice_get (both_links t b c L k n) i ≡ Some (Some y) → (0 < y.block) × (0 < y.offset)
both_positive t b c L k n i y g h e = go (downlinks b (tuples_at t b) L 0 k) (downlinks c (tuples_at (lists_table t b L 0 k) c) L k (n - k)) i
    (λ j f. downlinks_positive b (tuples_at t b) L 0 k j y g f) (λ j f. downlinks_positive c (tuples_at (lists_table t b L 0 k) c) L k (n - k) j y h f) e
  where
    go : (xs ys : List (Option Place)) (i : ℕ) → ((j : ℕ) → slice_get xs j ≡ Some (Some y) → (0 < y.block) × (0 < y.offset)) → ((j : ℕ) → slice_get ys j ≡ Some (Some y) → (0 < y.block) × (0 < y.offset)) → slice_get (xs ++ ys) i ≡ Some (Some y) → (0 < y.block) × (0 < y.offset)
    go [] ys i p q e = q i e
    go (x ∷ xs) ys zero p q e = p 0 e
    go (x ∷ xs) ys (suc i) p q e = go xs ys i (λ j f. p (suc j) f) q e

module _ (t : Table) (x p : Place) (i q c : ℕ) (inner : Tuple) (L : ℕ → List Leaf) (k n : ℕ) (M : MayPart t x p i q c inner L k n) where
  abbrev pub t0 : Table
  t0 = added_table t q inner

  abbrev pub t1 : Table
  t1 = cleared_table t x q inner

  abbrev pub tb : Table
  tb = lists_table t1 x.block L 0 k

  abbrev pub t3 : Table
  t3 = both_tables t1 x.block c L k n

  abbrev pub ds : List (Option Place)
  ds = both_links t1 x.block c L k n

  abbrev pub z : Place
  z = new_place t q

  abbrev pub t4 : Table
  t4 = linked_table t3 z ds

  pub count0 : length t0.pages ≡ length t.pages
  count0 = pages_same t q (added (tuples_at t q) inner)

  pub count1 : length t1.pages ≡ length t.pages
  count1 = length-set t0.pages x.block _ ∙ count0

  pub countb : length tb.pages ≡ length t.pages
  countb = length-set t1.pages x.block _ ∙ count1

  pub count3 : length t3.pages ≡ length t.pages
  count3 = length-set tb.pages c _ ∙ countb

  pub count4 : length t4.pages ≡ length t.pages
  count4 = length-set t3.pages q _ ∙ count3

  -- the old page before the chain is taken
  pub x_before : tuples_at t0 x.block ≡ tuples_at t x.block
  x_before = tuples_other t q (added (tuples_at t q) inner) x.block M.x_not_q

  pub chained_before : IsChainedPage (tuples_at t0 x.block)
  chained_before = subst IsChainedPage (sym x_before) M.chained

  pub begins_before : BeginsChain (tuples_at t0 x.block) x.offset
  begins_before = subst (λ ts. BeginsChain ts x.offset) (sym x_before) M.begins

  pub x_cleared : tuples_at t1 x.block ≡ taken_from (tuples_at t x.block) x.offset (new_place t q) t.clock
  x_cleared = tuples_same t0 x.block (taken_from (tuples_at t0 x.block) x.offset (new_place t q) t.clock) (let a = count0 in let b = M.x_there.1 in omega arith) ∙ ap (λ ts. taken_from ts x.offset (new_place t q) t.clock) x_before

  -- another page than those of the lists
  pub others_kept : (d : ℕ) → (d ≡ x.block → ⊥) → (d ≡ c → ⊥) → tuples_at t3 d ≡ tuples_at t0 d
  others_kept d a b = tuples_other tb c _ d b ∙ tuples_other t1 x.block _ d a ∙ tuples_other t0 x.block _ d a

  pub q_before : tuples_at t3 q ≡ added (tuples_at t q) inner
  q_before = others_kept q (λ e. M.x_not_q (sym e)) (λ e. M.c_not_q (sym e)) ∙ tuples_same t q (added (tuples_at t q) inner) M.q_there.1

  pub z_offset : IsOffset (tuples_at t3 q) z.offset
  z_offset = subst (λ ts. IsOffset ts z.offset) (sym q_before) (free_offset (tuples_at t q) inner)

  pub z_tuple : tuple_at t3 z ≡ inner
  z_tuple = ap (λ ts. tuple_on ts z.offset) q_before ∙ with_tuple_at (tuples_at t q) (free_place (tuples_at t q)) inner (free_place_length (tuples_at t q))

  pub ds_length : length ds ≡ n
  ds_length = both_length t1 x.block c L k n M.cut

  pub z_bare : tuple_at t3 z ≡ Inner (frame_in (tuple_at t3 z)) (bare (length ds))
  z_bare = z_tuple ∙ M.bare_inner ∙ ap₂ (λ (u : Tuple) j. Inner (frame_in u) (bare j)) (sym z_tuple) (sym ds_length)

  pub offset_of : (u : Table) (o : ℕ) → u ≡ t3 → o ≡ z.offset → IsOffset (tuples_at u q) o
  offset_of u o e a = subst (λ (v : Table). IsOffset (tuples_at v q) o) (sym e) (subst (λ j. IsOffset (tuples_at t3 q) j) (sym a) z_offset)

  pub bare_of : (u : Table) (o : ℕ) (ns : List (Option Place)) → u ≡ t3 → o ≡ z.offset → ns ≡ ds → tuple_at u (place q o) ≡ Inner (frame_in (tuple_at u (place q o))) (bare (length ns))
  bare_of u o ns e a b =
      subst (λ (v : Table). tuple_at v (place q o) ≡ Inner (frame_in (tuple_at v (place q o))) (bare (length ns))) (sym e)
      (subst (λ j. tuple_at t3 (place q j) ≡ Inner (frame_in (tuple_at t3 (place q j))) (bare (length ns))) (sym a)
      (subst (λ (vs : List (Option Place)). tuple_at t3 z ≡ Inner (frame_in (tuple_at t3 z)) (bare (length vs))) (sym b) z_bare))

  -- the tuple above
  pub p_not_z : p.block ≡ q → p.offset ≡ z.offset → ⊥
  p_not_z e f =
      let a : tuple_at t p ≡ Placeholder = ap₂ (λ b o. tuple_on (tuples_at t b) o) e f ∙ free_place_free (tuples_at t q) in
      let b = ap (λ u. length (links u)) a in let h = M.node in absurd (omega arith)

  pub p_tuple : tuple_at t4 p ≡ tuple_at t p
  p_tuple = ⊎_elim here there (cases_eq p.block q)
    where
      here : p.block ≡ q → tuple_at t4 p ≡ tuple_at t p
      here e =
          let f : tuples_at t4 q ≡ with_tuple (tuples_at t3 q) z.offset (Inner (frame_in (tuple_at t3 z)) ds) = tuples_same t3 q _ (let a = count3 in let b = M.q_there.1 in omega arith) in
          ap (λ b. tuple_on (tuples_at t4 b) p.offset) e ∙ ap (λ ts. tuple_on ts p.offset) f
          ∙ ap (λ (T : ℕ → Tuple). T p.offset) (tuple_on-with (tuples_at t3 q) z.offset _ z_offset.0 (let a = z_offset.1 in omega arith))
          ∙ put_on_other (tuple_on (tuples_at t3 q)) z.offset _ p.offset (p_not_z e)
          ∙ ap (λ ts. tuple_on ts p.offset) q_before ∙ ap (λ (T : ℕ → Tuple). T p.offset) (free_at (tuples_at t q) inner)
          ∙ put_on_other (tuple_on (tuples_at t q)) z.offset inner p.offset (p_not_z e) ∙ ap (λ b. tuple_on (tuples_at t b) p.offset) (sym e)

      there : (p.block ≡ q → ⊥) → tuple_at t4 p ≡ tuple_at t p
      there a = ap (λ ts. tuple_on ts p.offset) (tuples_other t3 q _ p.block a ∙ others_kept p.block (λ e. M.x_not_p (sym e)) (λ e. M.c_not_p (sym e)) ∙ tuples_other t q _ p.block a)

  pub p_offset : IsOffset (tuples_at t4 p.block) p.offset
  p_offset = ⊎_elim here there (cases_eq p.block q)
    where
      here : p.block ≡ q → IsOffset (tuples_at t4 p.block) p.offset
      here e =
          let f : tuples_at t4 p.block ≡ with_tuple (tuples_at t3 q) z.offset (Inner (frame_in (tuple_at t3 z)) ds) = ap (tuples_at t4) e ∙ tuples_same t3 q _ (let a = count3 in let b = M.q_there.1 in omega arith) in
          let g = ap length f in
          let h = with_tuple_longer (tuples_at t3 q) z.offset (Inner (frame_in (tuple_at t3 z)) ds) in
          let a = ap length q_before in
          let b = with_tuple_longer (tuples_at t q) z.offset inner in
          let d = ap (λ j. length (tuples_at t j)) e in
          let r0 = M.parent.0 in let r1 = M.parent.1 in (r0, omega arith)

      there : (p.block ≡ q → ⊥) → IsOffset (tuples_at t4 p.block) p.offset
      there a = subst (λ ts. IsOffset ts p.offset) (sym (tuples_other t3 q _ p.block a ∙ others_kept p.block (λ e. M.x_not_p (sym e)) (λ e. M.c_not_p (sym e)) ∙ tuples_other t q _ p.block a)) M.parent

-- the steps of the code, one after another
pub cleared_is : (t u1 u2 : Table) (x : Place) (q o : ℕ) (inner : Tuple) → o ≡ (new_place t q).offset → u1 ≡ added_table t q inner → u2 ≡ taken_table u1 x (place q o) → u2 ≡ cleared_table t x q inner
cleared_is t u1 u2 x q o inner a e1 e2 = e2 ∙ ap₂ (λ u w. taken_table u x (place q w)) e1 a

pub both_is : (t u1 u2 u3 : Table) (x : Place) (q o c : ℕ) (inner : Tuple) (L : ℕ → List Leaf) (k n : ℕ) → o ≡ (new_place t q).offset → u1 ≡ added_table t q inner → u2 ≡ taken_table u1 x (place q o) → u3 ≡ both_tables u2 x.block c L k n → u3 ≡ both_tables (cleared_table t x q inner) x.block c L k n
both_is t u1 u2 u3 x q o c inner L k n a e1 e2 e3 = e3 ∙ ap (λ u. both_tables u x.block c L k n) (cleared_is t u1 u2 x q o inner a e1 e2)

pub links_is : (t u1 u2 : Table) (x : Place) (q o c : ℕ) (inner : Tuple) (L : ℕ → List Leaf) (k n : ℕ) (ls ks : List (Option Place)) → o ≡ (new_place t q).offset → u1 ≡ added_table t q inner → u2 ≡ taken_table u1 x (place q o) → ls ≡ both_links u2 x.block c L k n → ks ≡ ls → ks ≡ both_links (cleared_table t x q inner) x.block c L k n
links_is t u1 u2 x q o c inner L k n ls ks a e1 e2 e3 e = e ∙ e3 ∙ ap (λ u. both_links u x.block c L k n) (cleared_is t u1 u2 x q o inner a e1 e2)

pub linked_is : (t u1 u2 u3 u4 : Table) (x : Place) (q o c : ℕ) (inner : Tuple) (L : ℕ → List Leaf) (k n : ℕ) (ls ks : List (Option Place)) → o ≡ (new_place t q).offset → u1 ≡ added_table t q inner → u2 ≡ taken_table u1 x (place q o) → u3 ≡ both_tables u2 x.block c L k n → ls ≡ both_links u2 x.block c L k n → ks ≡ ls →
    u4 ≡ linked_table u3 (place q o) ks → u4 ≡ linked_table (both_tables (cleared_table t x q inner) x.block c L k n) (new_place t q) (both_links (cleared_table t x q inner) x.block c L k n)
linked_is t u1 u2 u3 u4 x q o c inner L k n ls ks a e1 e2 e3 el ek e4 =
    e4 ∙ ap₂ (λ (u : Table) vs. linked_table u (place q o) vs) (both_is t u1 u2 u3 x q o c inner L k n a e1 e2 e3) (links_is t u1 u2 x q o c inner L k n ls ks a e1 e2 el ek)
    ∙ ap (λ w. linked_table (both_tables (cleared_table t x q inner) x.block c L k n) (place q w) (both_links (cleared_table t x q inner) x.block c L k n)) a

pub parted_is : (t u1 u2 u3 u4 u5 u6 : Table) (x p : Place) (i q o c : ℕ) (inner : Tuple) (L : ℕ → List Leaf) (k n : ℕ) (ls ks : List (Option Place)) → o ≡ (new_place t q).offset → u1 ≡ added_table t q inner → u2 ≡ taken_table u1 x (place q o) → u3 ≡ both_tables u2 x.block c L k n → ls ≡ both_links u2 x.block c L k n → ks ≡ ls →
    u4 ≡ linked_table u3 (place q o) ks → u5 ≡ with_link u4 p i (Some (place q o)) → u6 ≡ with_clock u5 (u5.clock + 1) → u6 ≡ table_below t x p i q c inner L k n
parted_is t u1 u2 u3 u4 u5 u6 x p i q o c inner L k n ls ks a e1 e2 e3 el ek e4 e5 e6 =
    let f : u5 ≡ with_link (linked_table (both_tables (cleared_table t x q inner) x.block c L k n) (new_place t q) (both_links (cleared_table t x q inner) x.block c L k n)) p i (Some (new_place t q)) =
    e5 ∙ ap₂ (λ (u : Table) w. with_link u p i (Some (place q w))) (linked_is t u1 u2 u3 u4 x q o c inner L k n ls ks a e1 e2 e3 el ek e4) a in
    e6 ∙ ap (λ (u : Table). with_clock u (u.clock + 1)) f
