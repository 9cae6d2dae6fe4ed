-- The lists that stay have room on the old page, and those that go away have room together.
use Rattle.std.proofs.Common.{◌≡◌, ℕ, zero, suc, ◌+◌, ◌-◌, ◌≤◌, ◌<◌, List, [], ◌∷◌, ⊎_elim, None, length, get_or, nat_le, refl, sym, ap, subst, arith}
use Rattle.std.proofs.lemmas.Bool.{cases_lt, cond-true, cond-false, le-leb, lt-leb}
use Rattle.spg_forest.specs.View.{Leaf}
use Rattle.spg_forest.specs.Tuples.{Tuple, Live}
use Rattle.spg_forest.specs.Pages.{all_live}
use Rattle.spg_forest.specs.Sheets.{weight, gaps, size_of}
use Rattle.spg_page.specs.Changes.{free_of, room_of}
use Rattle.spg_page.specs.Reads.{leaf_in}
use Rattle.spg_split.specs.declared.plan.Left.{Left}
use Rattle.spg_split.specs.Placing.{taken_by, HaveRooms}
use Rattle.spg_chain.specs.Listed.{leaves_in, chained}
use Rattle.spg_split.specs.Planning.{size_of_list, room_left, less, staying, from_node}
use Rattle.spg_split.proofs.Totals.{total, IsSum, total_none, total_in, total_past, bytes_sum, count_sum, have_rooms}
use Rattle.spg_chain.proofs.ListTotals.{chain_takes, bytes, count}

-- the lists that stay have room one after another
pub stay_rooms : (ts : List Tuple) (L : ℕ → List Leaf) (l : Left) (k n : ℕ) → weight ts ≤ 8160 → l.free ≡ free_of ts → l.gaps ≡ gaps ts → HaveRooms ts L k (staying L l k n)
stay_rooms ts L l k zero f a b = tt
stay_rooms ts L l k (suc n) f a b = ⊎_elim
    (λ h. subst (HaveRooms ts L k) (sym (cond-false (nat_le (weight (all_live (L k))) (room_left l (size_of_list (L k)))) (suc (staying L (less l (size_of_list (L k))) (suc k) n)) 0 (lt-leb (weight (all_live (L k))) (room_left l (size_of_list (L k))) h))) tt)
    (λ h. let (x, y) = chain_takes ts None (L k) tt in
    let r : weight (all_live (L k)) ≤ room_of ts (length (L k)) = omega arith in
    subst (HaveRooms ts L k) (sym (cond-true (nat_le (weight (all_live (L k))) (room_left l (size_of_list (L k)))) (suc (staying L (less l (size_of_list (L k))) (suc k) n)) 0 (le-leb (weight (all_live (L k))) (room_left l (size_of_list (L k))) h)))
    (record { fits = f; room = r }, stay_rooms (chained ts 0 (L k)) L (less l (size_of_list (L k))) (suc k) n (omega arith) (omega arith) (omega arith)))
    (cases_lt (room_left l (size_of_list (L k))) (weight (all_live (L k))))

pub stay_few : (L : ℕ → List Leaf) (l : Left) (k n : ℕ) → staying L l k n ≤ n
stay_few L l k zero = omega arith
stay_few L l k (suc n) =
    let h = stay_few L (less l (size_of_list (L k))) (suc k) n in
    ⊎_elim
    (λ h. let e = cond-false (nat_le (weight (all_live (L k))) (room_left l (size_of_list (L k)))) (suc (staying L (less l (size_of_list (L k))) (suc k) n)) 0 (lt-leb (weight (all_live (L k))) (room_left l (size_of_list (L k))) h) in omega arith)
    (λ g. let e = cond-true (nat_le (weight (all_live (L k))) (room_left l (size_of_list (L k)))) (suc (staying L (less l (size_of_list (L k))) (suc k) n)) 0 (le-leb (weight (all_live (L k))) (room_left l (size_of_list (L k))) g) in omega arith)
    (cases_lt (room_left l (size_of_list (L k))) (weight (all_live (L k))))

module _ (h : Leaf → ℕ) (g : List Leaf → ℕ) (G : IsSum h g) where
  -- each leaf of a node from k on is in one of these lists
  pub total_from : (ts : List Tuple) (nodes : List ℕ) (k n : ℕ) → length ts ≤ length nodes → ((i : ℕ) → i < length nodes → get_or nodes i 0 < k + n) → total g (λ j. taken_by j ts nodes) k n ≡ g (leaves_in (from_node k ts nodes))
  total_from [] nodes k n e small = let a = total_none h g G nodes k n in let b = G.none in omega arith
  total_from (t ∷ ts) [] k n e small = absurd (omega arith)
  total_from (t ∷ ts) (a ∷ nodes) k n e small =
      let b = small 0 (omega arith) in
      let d = total_from ts nodes k n (omega arith) (λ i w. small (suc i) (omega arith)) in
      ⊎_elim
      (λ q. let c = total_past h g G t ts a nodes k n q in
      let z = ap (λ us. g (leaves_in us)) (cond-false (nat_le k a) (t ∷ from_node k ts nodes) (from_node k ts nodes) (lt-leb k a q)) in omega arith)
      (λ q. let c = total_in h g G t ts a nodes k n q b in
      let m = G.more (leaf_in t) (leaves_in (from_node k ts nodes)) in
      let z = ap (λ us. g (leaves_in us)) (cond-true (nat_le k a) (t ∷ from_node k ts nodes) (from_node k ts nodes) (le-leb k a q)) in omega arith) (cases_lt a k)

-- the leaf tuples that go away have no links either
from_live : (k : ℕ) (ts : List Tuple) (nodes : List ℕ) → ts ≡ all_live (leaves_in ts) → weight (from_node k ts nodes) ≡ weight (all_live (leaves_in (from_node k ts nodes)))
from_live k [] nodes e = refl
from_live k (t ∷ ts) [] e = refl
from_live k (t ∷ ts) (n ∷ nodes) e =
    let p : t ≡ Live (leaf_in t) 0 = cc in
    let q : ts ≡ all_live (leaves_in ts) = cc in
    let h = from_live k ts nodes q in
    let s = ap size_of p in
    ⊎_elim
    (λ a. let c = cond-false (nat_le k n) (t ∷ from_node k ts nodes) (from_node k ts nodes) (lt-leb k n a) in let x = ap weight c in let y = ap (λ us. weight (all_live (leaves_in us))) c in omega arith)
    (λ a. let c = cond-true (nat_le k n) (t ∷ from_node k ts nodes) (from_node k ts nodes) (le-leb k n a) in let x = ap weight c in let y = ap (λ us. weight (all_live (leaves_in us))) c in omega arith) (cases_lt n k)

-- and weigh no more than all
pub from_lighter : (k : ℕ) (ts : List Tuple) (nodes : List ℕ) → weight (from_node k ts nodes) ≤ weight ts
from_lighter k [] nodes = omega arith
from_lighter k (t ∷ ts) [] = omega arith
from_lighter k (t ∷ ts) (n ∷ nodes) = let h = from_lighter k ts nodes in ⊎_elim
    (λ a. let x = ap weight (cond-false (nat_le k n) (t ∷ from_node k ts nodes) (from_node k ts nodes) (lt-leb k n a)) in omega arith)
    (λ a. let x = ap weight (cond-true (nat_le k n) (t ∷ from_node k ts nodes) (from_node k ts nodes) (le-leb k n a)) in omega arith) (cases_lt n k)

pub length-leaves_in : (ts : List Tuple) → length (leaves_in ts) ≡ length ts
length-leaves_in [] = refl
length-leaves_in (t ∷ ts) = ap suc (length-leaves_in ts)

-- they have room on a page that was picked for them
pub rest_rooms : (us : List Tuple) (leaves : List Tuple) (nodes : List ℕ) (k n : ℕ) → weight us ≤ 8160 → leaves ≡ all_live (leaves_in leaves) → length leaves ≤ length nodes → ((i : ℕ) → i < length nodes → get_or nodes i 0 < n) → k ≤ n →
    weight (from_node k leaves nodes) ≤ room_of us (length (from_node k leaves nodes)) → HaveRooms us (λ j. taken_by j leaves nodes) k (n - k)
rest_rooms us leaves nodes k n f live each small le r =
    let few : (i : ℕ) → i < length nodes → get_or nodes i 0 < k + (n - k) = λ i h. let s = small i h in omega arith in
    let a = total_from (λ l. size_of (Live l 0) + 4) bytes bytes_sum leaves nodes k (n - k) each few in
    let b = total_from (λ l. 1) count count_sum leaves nodes k (n - k) each few in
    let w = from_live k leaves nodes live in
    let c = length-leaves_in (from_node k leaves nodes) in
    have_rooms us (λ j. taken_by j leaves nodes) k (n - k) f (rw (a, b) (rw (← w, c) r))
