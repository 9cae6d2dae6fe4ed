-- What was planned can be done on the pages that were picked.
use Rattle.std.proofs.Common.{◌≡◌, ℕ, ◌+◌, ◌-◌, ◌≤◌, ◌<◌, nat_le, true, false, List, [], ◌∷◌, ⊎_elim, length, take, refl, sym, ap, ◌∙◌, subst, arith}
use Rattle.std.proofs.lemmas.Bool.{cases_eq, cases_lt, cond-true, cond-false, le-leb, lt-leb}
use Rattle.std.proofs.lemmas.List.{length-take-le}
use Rattle.std.proofs.Math.Seq.{take-length}
use Rattle.spg_forest.specs.View.{Place, Leaf}
use Rattle.spg_forest.specs.Tuples.{Tuple, Live, Dead, Placeholder}
use Rattle.spg_forest.specs.Pages.{tuple_on, all_live}
use Rattle.spg_forest.specs.Sheets.{Sheet, weight, size_of, gaps, links}
use Rattle.spg_forest.proofs.Flat.{none_on}
use Rattle.spg_page.specs.Changes.{added, free_of, room_of}
use Rattle.spg_page.specs.Kinds.{IsOffset}
use Rattle.spg_chain.specs.Chains.{IsChainedPage, BeginsChain}
use Rattle.spg_tree.specs.Table.{Table, sheet_at, tuples_at}
use Rattle.spg_split.specs.declared.parts.Parts.{Parts}
use Rattle.spg_split.specs.declared.plan.Left.{Left}
use Rattle.spg_split.specs.declared.plan.Plan.{Plan}
use Rattle.spg_split.specs.declared.homes.Homes.{Homes}
use Rattle.spg_split.specs.Parts.{AreReady}
use Rattle.spg_split.specs.Placing.{taken_by, placed, HaveRooms}
use Rattle.spg_chain.specs.Listed.{leaves_in}
use Rattle.spg_split.specs.Planning.{from_node, IsPlanOf, IsPlan, IsLeft}
use Rattle.spg_split.specs.Homes.{PicksHomes}
use Rattle.spg_split.specs.Divides.{MayDivide, put_by}
use Rattle.spg_split.specs.Writing.{taken_from, cleared_table, lists_table, MayPart}
use Rattle.spg_tree.specs.Writes.{new_place, added_table}
use Rattle.spg_split.proofs.Plans.{stay_rooms, stay_few, rest_rooms}
use Rattle.spg_split.proofs.Totals.{take_live, placed_fits}
use Rattle.spg_split.proofs.Housing.{IsHoused, housed}
use Rattle.spg_tree.proofs.PickedPages.{held}
use Rattle.spg_tree.proofs.Pages.{tuples_same, tuples_other, pages_same}

pub from_few : (k : ℕ) (ts : List Tuple) (nodes : List ℕ) → length (from_node k ts nodes) ≤ length ts
from_few k [] nodes = omega arith
from_few k (t ∷ ts) [] = omega arith
from_few k (t ∷ ts) (n ∷ nodes) = let h = from_few k ts nodes in ⊎_elim
    (λ e. let c = ap length (cond-false (nat_le k n) (t ∷ from_node k ts nodes) (from_node k ts nodes) (lt-leb k n e)) in omega arith)
    (λ e. let c = ap length (cond-true (nat_le k n) (t ∷ from_node k ts nodes) (from_node k ts nodes) (le-leb k n e)) in omega arith) (cases_lt n k)

no_weight : (ts : List Tuple) → length ts ≡ 0 → weight ts ≡ 0
no_weight [] e = refl
no_weight (t ∷ ts) e = absurd (omega arith)

-- the plan of the leaf tuples that are put
pub plan_of_put : (p : Parts) (l : Left) (plan : Plan) → 0 < length p.leaves → IsPlan p l plan → IsPlanOf (put_by p plan) p.node_of (length p.links) l plan × (plan.count ≤ length p.leaves)
plan_of_put p l plan some = ⊎_elim
    (λ (P, f). let c = P.count in (subst (λ ts. IsPlanOf ts p.node_of (length p.links) l plan) (sym (ap (λ k. take k p.leaves) c ∙ take-length p.leaves)) P, omega arith))
    (λ (P, o). let c = P.count ∙ length-take-le (length p.leaves - 1) p.leaves (omega arith) in (subst (λ ts. IsPlanOf ts p.node_of (length p.links) l plan) (sym (ap (λ k. take k p.leaves) c)) P, omega arith))

pub plan_few : (p : Parts) (l : Left) (plan : Plan) → AreReady p → 0 < length p.leaves → IsPlan p l plan → plan.rest.tuples ≤ 409
plan_few p l plan R some P =
    let (Q, c) = plan_of_put p l plan some P in
    let e = Q.tuples in let f = from_few plan.cut (put_by p plan) p.node_of in let g = length-take-le plan.count p.leaves c in let h = R.few in omega arith

pub plan_zero : (p : Parts) (l : Left) (plan : Plan) → 0 < length p.leaves → IsPlan p l plan → plan.rest.tuples ≡ 0 → plan.rest.bytes ≡ 0
plan_zero p l plan some P z =
    let (Q, c) = plan_of_put p l plan some P in
    let e = Q.tuples in Q.bytes ∙ no_weight (from_node plan.cut (put_by p plan) p.node_of) (omega arith)

-- at x and at p tuples stand
pub x_stands : (t : Table) (x p : Place) (i : ℕ) → MayDivide t x p i → tuples_at t x.block ≡ [] → ⊥
x_stands t x p i D e = ⊎_elim
    (λ d. let a : Dead ≡ Placeholder = sym d ∙ none_on (tuples_at t x.block) x.offset e in cc)
    (λ (l, n, d, h). let a : Live l n ≡ Placeholder = sym d ∙ none_on (tuples_at t x.block) x.offset e in cc) D.begins

pub p_stands : (t : Table) (x p : Place) (i : ℕ) → MayDivide t x p i → tuples_at t p.block ≡ [] → ⊥
p_stands t x p i D e = let a = ap length e in let b = D.parent.0 in let c = D.parent.1 in absurd (omega arith)

pub homes_housed : (t t2 : Table) (x p : Place) (i seat : ℕ) (parts : Parts) (l : Left) (plan : Plan) (h : Homes) → MayDivide t x p i → 0 < length parts.leaves → IsPlan parts l plan → 3 ≤ length t.pages →
    PicksHomes t t2 x.block p.block (size_of parts.inner + 4) plan.rest seat h → IsHoused t t2 x.block (size_of parts.inner + 4) plan.rest h
homes_housed t t2 x p i seat parts l plan h D some P roots H =
    housed t x.block p.block (size_of parts.inner + 4) seat plan.rest roots D.x_from D.x_there D.x_leaf (x_stands t x p i D) D.p_there D.p_inner (p_stands t x p i D) D.tree (plan_zero parts l plan some P) t2 h H

module _ (t t2 : Table) (x p : Place) (i : ℕ) (parts : Parts) (l : Left) (plan : Plan) (h : Homes) (D : MayDivide t x p i) (R : AreReady parts) (some : 0 < length parts.leaves) (left : IsLeft (tuples_at t x.block) x.offset l) (P : IsPlan parts l plan)
    (H : IsHoused t t2 x.block (size_of parts.inner + 4) plan.rest h) where
  abbrev leaves : List Tuple
  leaves = put_by parts plan

  abbrev L : ℕ → List Leaf
  L j = taken_by j leaves parts.node_of

  abbrev n : ℕ
  n = length parts.links

  abbrev k : ℕ
  k = plan.cut

  Q : IsPlanOf leaves parts.node_of n l plan
  Q = (plan_of_put parts l plan some P).0

  pub put_live : leaves ≡ all_live (leaves_in leaves)
  put_live = take_live parts.leaves plan.count R.leaves

  pub put_each : length leaves ≤ length parts.node_of
  put_each = let a = length-take-le plan.count parts.leaves (plan_of_put parts l plan some P).1 in let b = R.each in let c = (plan_of_put parts l plan some P).1 in omega arith

  pub x_same : sheet_at t2 x.block ≡ sheet_at t x.block
  x_same = held t t2 x.block H.pages (x_stands t x p i D)

  pub p_same : sheet_at t2 p.block ≡ sheet_at t p.block
  p_same = held t t2 p.block H.pages (p_stands t x p i D)

  pub x_not_q : x.block ≡ h.inner → ⊥
  x_not_q e = let a : false ≡ true = sym D.x_leaf ∙ sym (ap (λ (s : Sheet). s.inner) x_same) ∙ ap (λ b. (sheet_at t2 b).inner) e ∙ H.inner_kind in cc

  pub x_not_p : x.block ≡ p.block → ⊥
  x_not_p e = let a : false ≡ true = sym D.x_leaf ∙ ap (λ b. (sheet_at t b).inner) e ∙ D.p_inner in cc

  pub c_not_q : h.rest ≡ h.inner → ⊥
  c_not_q e = let a : false ≡ true = sym H.rest_kind ∙ ap (λ b. (sheet_at t2 b).inner) e ∙ H.inner_kind in cc

  pub c_not_p : h.rest ≡ p.block → ⊥
  c_not_p e = let a : false ≡ true = sym H.rest_kind ∙ ap (λ b. (sheet_at t2 b).inner) e ∙ ap (λ (s : Sheet). s.inner) p_same ∙ D.p_inner in cc

  abbrev us : List Tuple
  us = taken_from (tuples_at t2 x.block) x.offset (new_place t2 h.inner) t2.clock

  here : (l.free ≡ free_of us) × (l.gaps ≡ gaps us) × (weight us ≤ 8160)
  here = subst (λ ts. IsLeft ts x.offset l) (sym (H.tuples x.block)) left (new_place t2 h.inner) t2.clock

  stay : HaveRooms us L 0 k
  stay = subst (HaveRooms us L 0) (sym Q.cut) (stay_rooms us L l 0 n here.2 here.0 here.1)

  cut : k ≤ n
  cut = let a = stay_few L l 0 n in let b = Q.cut in omega arith

  abbrev t1 : Table
  t1 = cleared_table t2 x h.inner parts.inner

  there : x.block < length (added_table t2 h.inner parts.inner).pages
  there = let a = H.pages.count in let b = D.x_there in let c = pages_same t2 h.inner (added (tuples_at t2 h.inner) parts.inner) in omega arith

  x_cleared : tuples_at t1 x.block ≡ us
  x_cleared = tuples_same (added_table t2 h.inner parts.inner) x.block _ there ∙ ap (λ ts. taken_from ts x.offset (new_place t2 h.inner) t2.clock) (tuples_other t2 h.inner _ x.block x_not_q)

  rest : HaveRooms (tuples_at (lists_table t1 x.block L 0 k) h.rest) L k (n - k)
  rest = ⊎_elim on_old elsewhere (cases_eq h.rest x.block)
    where
      rooms : (vs : List Tuple) → weight vs ≤ 8160 → weight (from_node k leaves parts.node_of) ≤ room_of vs (length (from_node k leaves parts.node_of)) → HaveRooms vs L k (n - k)
      rooms vs f r = rest_rooms vs leaves parts.node_of k n f put_live put_each R.there cut r

      nothing : (vs : List Tuple) → plan.rest.tuples ≡ 0 → weight (from_node k leaves parts.node_of) ≤ room_of vs (length (from_node k leaves parts.node_of))
      nothing vs z = let a = plan_zero parts l plan some P z in let b = Q.bytes in omega arith

      on_old : h.rest ≡ x.block → HaveRooms (tuples_at (lists_table t1 x.block L 0 k) h.rest) L k (n - k)
      on_old e =
          let f : tuples_at (lists_table t1 x.block L 0 k) h.rest ≡ placed us L 0 k =
          ap (tuples_at (lists_table t1 x.block L 0 k)) e ∙ tuples_same t1 x.block _ (let a = pages_same (added_table t2 h.inner parts.inner) x.block (taken_from (tuples_at (added_table t2 h.inner parts.inner) x.block) x.offset (new_place t2 h.inner) t2.clock) in let b = there in omega arith) ∙ ap (λ ts. placed ts L 0 k) x_cleared in
          subst (λ vs. HaveRooms vs L k (n - k)) (sym f) (rooms (placed us L 0 k) (placed_fits us L 0 k here.2 stay) (nothing (placed us L 0 k) (⊎_elim (λ z. z) (λ b. absurd (b e)) H.rest_where)))

      elsewhere : (h.rest ≡ x.block → ⊥) → HaveRooms (tuples_at (lists_table t1 x.block L 0 k) h.rest) L k (n - k)
      elsewhere a =
          let f : tuples_at (lists_table t1 x.block L 0 k) h.rest ≡ tuples_at t2 h.rest = tuples_other t1 x.block _ h.rest a ∙ tuples_other (added_table t2 h.inner parts.inner) x.block _ h.rest a ∙ tuples_other t2 h.inner _ h.rest c_not_q in
          let r = H.rest_room in let b = Q.bytes in let c = Q.tuples in
          subst (λ vs. HaveRooms vs L k (n - k)) (sym f) (rooms (tuples_at t2 h.rest) (subst (λ ts. weight ts ≤ 8160) (sym (H.tuples h.rest)) (D.fits h.rest)) (subst (λ j. weight (from_node k leaves parts.node_of) ≤ room_of (tuples_at t2 h.rest) j) c (subst (λ j. j ≤ room_of (tuples_at t2 h.rest) plan.rest.tuples) b r)))

  pub may_part : MayPart t2 x p i h.inner h.rest parts.inner L k n
  may_part = record {
    x_there = let a = H.pages.count in let b = D.x_there in let c = D.x_from in (omega arith, omega arith);
    q_there = let a = H.inner_from in (omega arith, H.inner_there);
    c_there = let a = H.rest_from in (omega arith, H.rest_there);
    p_there = let a = H.pages.count in let b = D.p_there in (D.p_from, omega arith);
    x_not_q = x_not_q;
    x_not_p = x_not_p;
    c_not_q = c_not_q;
    c_not_p = c_not_p;
    chained = subst IsChainedPage (sym (H.tuples x.block)) D.chained;
    begins = subst (λ ts. BeginsChain ts x.offset) (sym (H.tuples x.block)) D.begins;
    bare_inner = R.inner;
    inner_room = H.inner_room;
    cut = cut;
    count = R.count;
    stay = stay;
    rest = rest;
    parent = subst (λ ts. IsOffset ts p.offset) (sym (H.tuples p.block)) D.parent;
    node = subst (λ ts. i < length (links (tuple_on ts p.offset))) (sym (H.tuples p.block)) D.node;
    clock = let a = H.clock in let b = D.clock in omega arith;
  }
