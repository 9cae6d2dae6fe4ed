-- The sizes of lists, added up leaf by leaf.
use Rattle.std.proofs.Common.{◌≡◌, ℕ, suc, ◌+◌, ◌-◌, ◌*◌, ◌≤◌, ◌<◌, Bool, true, false, List, [], ◌∷◌, Some, None, ⊎_elim, length, drop, drop-cons, get_or, nat_le, refl, sym, ap, ap₂, ◌∙◌, arith}
use Rattle.std.specs.Prelude.{if◌then◌else◌}
use Rattle.std.proofs.lemmas.Bool.{cases_lt, cond-true, cond-false, le-leb, lt-leb, leb-true}
use Rattle.std.proofs.Math.Seq.{drop-length}
use Rattle.std.proofs.Math.Nat.{min-le_right}
use Rattle.spg_forest.specs.View.{Leaf}
use Rattle.spg_forest.specs.Tuples.{Tuple, Placeholder}
use Rattle.spg_forest.specs.Pages.{all_live}
use Rattle.spg_forest.specs.Sheets.{weight, size_of}
use Rattle.spg_split.specs.declared.plan.ListSize.{ListSize}
use Rattle.spg_split.specs.Placing.{taken_by}
use Rattle.spg_chain.specs.Listed.{leaves_in}
use Rattle.spg_split.specs.declared.plan.Left.{Left}
use Rattle.spg_split.specs.Planning.{size_of_list, from_node, room_left, less, left_after, staying}
use Rattle.spg_split.proofs.Growing.{taken_first, passed_first}
use Rattle.spg_chain.proofs.LiveLists.{unlinked_at}

-- of a list, the tuples and bytes that the size counts, and those of the leaf tuples from one on, are the whole
pub record IsSizing (j : ℕ) (ts : List Tuple) (nodes : List ℕ) (s : ListSize) (i : ℕ) : Type 0 where
  pub tuples : s.tuples + length (taken_by j (drop i ts) (drop i nodes)) ≡ length (taken_by j ts nodes)
  pub bytes : s.bytes + weight (all_live (taken_by j (drop i ts) (drop i nodes))) ≡ weight (all_live (taken_by j ts nodes))
  pub few : s.tuples ≤ i
  pub small : s.bytes ≤ 8160 * i

pub sizing_taken : (j : ℕ) (ts : List Tuple) (nodes : List ℕ) (s s2 : ListSize) (i : ℕ) (u : Tuple) → IsSizing j ts nodes s i → ts ≡ all_live (leaves_in ts) → i < length ts → length ts ≤ length nodes → get_or nodes i 0 ≡ j → u ≡ get_or ts i u →
    size_of u ≤ 8156 → s2.tuples ≡ s.tuples + 1 → s2.bytes ≡ s.bytes + (size_of u + 4) → IsSizing j ts nodes s2 (i + 1)
sizing_taken j ts nodes s s2 i u S live a b e is small x y =
    let f = taken_first j ts nodes i u a (omega arith) e in
    let n = ap length f in
    let w = ap (λ (ls : List Leaf). weight (all_live ls)) f in
    let q = ap size_of (is ∙ unlinked_at ts i u live a) in
    let t = S.tuples in let v = S.bytes in let k = S.few in let l = S.small in
    record { tuples = omega arith; bytes = omega arith; few = omega arith; small = omega arith }

pub sizing_passed : (j : ℕ) (ts : List Tuple) (nodes : List ℕ) (s : ListSize) (i : ℕ) → IsSizing j ts nodes s i → i < length ts → length ts ≤ length nodes → (get_or nodes i 0 ≡ j → ⊥) → IsSizing j ts nodes s (i + 1)
sizing_passed j ts nodes s i S a b e =
    let f = passed_first j ts nodes i Placeholder a (omega arith) e in
    let n = ap length f in
    let w = ap (λ (ls : List Leaf). weight (all_live ls)) f in
    let t = S.tuples in let v = S.bytes in let k = S.few in let l = S.small in
    record { tuples = omega arith; bytes = omega arith; few = omega arith; small = omega arith }

taken_none : (j : ℕ) (ts us : List Tuple) (nodes : List ℕ) → ts ≡ [] → taken_by j ts nodes ≡ []
taken_none j ts us nodes e = ap (λ (zs : List Tuple). taken_by j zs nodes) e

pub sized : (j : ℕ) (ts : List Tuple) (nodes : List ℕ) (s : ListSize) (i : ℕ) → IsSizing j ts nodes s i → i ≡ length ts → s ≡ size_of_list (taken_by j ts nodes)
sized j ts nodes s i S e =
    let d : drop i ts ≡ [] = ap (λ k. drop k ts) e ∙ drop-length ts in
    let n = taken_none j (drop i ts) ts (drop i nodes) d in
    let a = ap length n in
    let b = ap (λ (ls : List Leaf). weight (all_live ls)) n in
    let t = S.tuples in let v = S.bytes in
    let p : s.tuples ≡ length (taken_by j ts nodes) = omega arith in
    let q : s.bytes ≡ weight (all_live (taken_by j ts nodes)) = omega arith in
    λ k. record { tuples = p k; bytes = q k }

-- of the leaf tuples that go to nodes from k on
pub record IsResting (k : ℕ) (ts : List Tuple) (nodes : List ℕ) (s : ListSize) (i : ℕ) : Type 0 where
  pub tuples : s.tuples + length (from_node k (drop i ts) (drop i nodes)) ≡ length (from_node k ts nodes)
  pub bytes : s.bytes + weight (from_node k (drop i ts) (drop i nodes)) ≡ weight (from_node k ts nodes)
  pub few : s.tuples ≤ i
  pub small : s.bytes ≤ 8160 * i

from_first : (k : ℕ) (ts : List Tuple) (nodes : List ℕ) (i : ℕ) (d : Tuple) → i < length ts → i < length nodes → k ≤ get_or nodes i 0 →
    from_node k (drop i ts) (drop i nodes) ≡ get_or ts i d ∷ from_node k (drop (i + 1) ts) (drop (i + 1) nodes)
from_first k ts nodes i d a b e =
    let s : suc i ≡ i + 1 = omega arith in
    let x : drop i ts ≡ get_or ts i d ∷ drop (i + 1) ts = drop-cons ts i d a ∙ ap (λ k. get_or ts i d ∷ drop k ts) s in
    let y : drop i nodes ≡ get_or nodes i 0 ∷ drop (i + 1) nodes = drop-cons nodes i 0 b ∙ ap (λ k. get_or nodes i 0 ∷ drop k nodes) s in
    rw (x, y) (cond-true (nat_le k (get_or nodes i 0)) (get_or ts i d ∷ from_node k (drop (i + 1) ts) (drop (i + 1) nodes)) (from_node k (drop (i + 1) ts) (drop (i + 1) nodes)) (le-leb k (get_or nodes i 0) e))

from_passed : (k : ℕ) (ts : List Tuple) (nodes : List ℕ) (i : ℕ) (d : Tuple) → i < length ts → i < length nodes → get_or nodes i 0 < k →
    from_node k (drop i ts) (drop i nodes) ≡ from_node k (drop (i + 1) ts) (drop (i + 1) nodes)
from_passed k ts nodes i d a b e =
    let s : suc i ≡ i + 1 = omega arith in
    let x : drop i ts ≡ get_or ts i d ∷ drop (i + 1) ts = drop-cons ts i d a ∙ ap (λ k. get_or ts i d ∷ drop k ts) s in
    let y : drop i nodes ≡ get_or nodes i 0 ∷ drop (i + 1) nodes = drop-cons nodes i 0 b ∙ ap (λ k. get_or nodes i 0 ∷ drop k nodes) s in
    rw (x, y) (cond-false (nat_le k (get_or nodes i 0)) (get_or ts i d ∷ from_node k (drop (i + 1) ts) (drop (i + 1) nodes)) (from_node k (drop (i + 1) ts) (drop (i + 1) nodes)) (lt-leb k (get_or nodes i 0) e))

pub resting_taken : (k : ℕ) (ts : List Tuple) (nodes : List ℕ) (s s2 : ListSize) (i : ℕ) (u : Tuple) → IsResting k ts nodes s i → i < length ts → length ts ≤ length nodes → k ≤ get_or nodes i 0 → u ≡ get_or ts i u →
    size_of u ≤ 8156 → s2.tuples ≡ s.tuples + 1 → s2.bytes ≡ s.bytes + (size_of u + 4) → IsResting k ts nodes s2 (i + 1)
resting_taken k ts nodes s s2 i u S a b e is small x y =
    let f = from_first k ts nodes i u a (omega arith) e in
    let n = ap length f in
    let w = ap weight f in
    let q = ap size_of is in
    let t = S.tuples in let v = S.bytes in let h = S.few in let l = S.small in
    record { tuples = omega arith; bytes = omega arith; few = omega arith; small = omega arith }

pub resting_passed : (k : ℕ) (ts : List Tuple) (nodes : List ℕ) (s : ListSize) (i : ℕ) → IsResting k ts nodes s i → i < length ts → length ts ≤ length nodes → get_or nodes i 0 < k → IsResting k ts nodes s (i + 1)
resting_passed k ts nodes s i S a b e =
    let f = from_passed k ts nodes i Placeholder a (omega arith) e in
    let n = ap length f in
    let w = ap weight f in
    let t = S.tuples in let v = S.bytes in let h = S.few in let l = S.small in
    record { tuples = omega arith; bytes = omega arith; few = omega arith; small = omega arith }

pub rested : (k : ℕ) (ts : List Tuple) (nodes : List ℕ) (s : ListSize) (i : ℕ) → IsResting k ts nodes s i → i ≡ length ts → (s.tuples ≡ length (from_node k ts nodes)) × (s.bytes ≡ weight (from_node k ts nodes))
rested k ts nodes s i S e =
    let d : drop i ts ≡ [] = ap (λ k. drop k ts) e ∙ drop-length ts in
    let n : from_node k (drop i ts) (drop i nodes) ≡ [] = ap (λ (zs : List Tuple). from_node k zs (drop i nodes)) d in
    let a = ap length n in
    let b = ap weight n in
    let t = S.tuples in let v = S.bytes in
    (omega arith, omega arith)

-- those that go are some of all
pub rest_lighter : (k : ℕ) (ts : List Tuple) (nodes : List ℕ) → weight (from_node k ts nodes) ≤ weight ts
rest_lighter k [] nodes = omega arith
rest_lighter k (t ∷ ts) [] = omega arith
rest_lighter k (t ∷ ts) (n ∷ nodes) = let h = rest_lighter k ts nodes in ⊎_elim
    (λ e. let c = ap weight (cond-false (nat_le k n) (t ∷ from_node k ts nodes) (from_node k ts nodes) (lt-leb k n e)) in omega arith)
    (λ e. let c = ap weight (cond-true (nat_le k n) (t ∷ from_node k ts nodes) (from_node k ts nodes) (le-leb k n e)) in omega arith) (cases_lt n k)

-- ---- what stays

pick_some : (b : Bool) (x r : Left) → (if b then Some x else None) ≡ Some r → (b ≡ true) × (x ≡ r)
pick_some true x r e = (refl, cc)
pick_some false x r e = cc

pick_none : (b : Bool) (x : Left) → (if b then Some x else None) ≡ None → b ≡ false
pick_none true x e = cc
pick_none false x e = refl

-- so many of the lists stay, of which those from node k on are still to be tried
pub record IsStaying (L : ℕ → List Leaf) (l : Left) (n : ℕ) (r : Left) (k : ℕ) : Type 0 where
  pub same : staying L l 0 n ≡ k + staying L r k (n - k)
  pub bound : r.free + 20 * r.gaps ≤ 16340

pub stays_more : (L : ℕ → List Leaf) (l : Left) (n : ℕ) (r r2 : Left) (s : ListSize) (k : ℕ) → IsStaying L l n r k → k < n → s ≡ size_of_list (L k) → Some r2 ≡ left_after r s → IsStaying L l n r2 (k + 1)
stays_more L l n r r2 s k S h a e =
    let (b, q) = pick_some (nat_le (weight (all_live (L k))) (room_left r (size_of_list (L k)))) (less r (size_of_list (L k))) r2 (sym (e ∙ ap (left_after r) a)) in
    let x : n - k ≡ suc (n - (k + 1)) = omega arith in
    let y : suc k ≡ k + 1 = omega arith in
    let z = ap (staying L r k) x ∙ cond-true (nat_le (weight (all_live (L k))) (room_left r (size_of_list (L k)))) (suc (staying L (less r (size_of_list (L k))) (suc k) (n - (k + 1)))) 0 b in
    let w = ap₂ (λ (u : Left) i. staying L u i (n - (k + 1))) q y in
    let p = S.same in let v = S.bound in
    let fits = leb-true (weight (all_live (L k))) (room_left r (size_of_list (L k))) b in
    let f = ap (λ (u : Left). u.free) q in let g = ap (λ (u : Left). u.gaps) q in
    let m = min-le_right (length (L k)) r.gaps in
    record { same = omega arith; bound = omega arith }

pub stays_no_more : (L : ℕ → List Leaf) (l : Left) (n : ℕ) (r : Left) (s : ListSize) (k : ℕ) → IsStaying L l n r k → k < n → s ≡ size_of_list (L k) → None ≡ left_after r s → k ≡ staying L l 0 n
stays_no_more L l n r s k S h a e =
    let b = pick_none (nat_le (weight (all_live (L k))) (room_left r (size_of_list (L k)))) (less r (size_of_list (L k))) (sym (e ∙ ap (left_after r) a)) in
    let x : n - k ≡ suc (n - (k + 1)) = omega arith in
    let z = ap (staying L r k) x ∙ cond-false (nat_le (weight (all_live (L k))) (room_left r (size_of_list (L k)))) (suc (staying L (less r (size_of_list (L k))) (suc k) (n - (k + 1)))) 0 b in
    let p = S.same in omega arith

pub all_stay : (L : ℕ → List Leaf) (l : Left) (n : ℕ) (r : Left) (k : ℕ) → IsStaying L l n r k → k ≡ n → n ≡ staying L l 0 n
all_stay L l n r k S e =
    let x : n - k ≡ 0 = omega arith in
    let z = ap (staying L r k) x in
    let p = S.same in omega arith
