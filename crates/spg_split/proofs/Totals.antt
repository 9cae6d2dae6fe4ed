-- Sums over the lists of all nodes.
use Rattle.std.proofs.Common.{◌≡◌, ℕ, zero, suc, ◌+◌, ◌-◌, ◌*◌, ◌≤◌, ◌<◌, List, [], ◌∷◌, ⊎_elim, None, length, take, get_or, nat_eq, refl, sym, ap, ◌∙◌, arith}
use Rattle.std.proofs.lemmas.Bool.{cases_eq, cases_lt, cond-true, cond-false, eq-eqb, ne_eqb}
use Rattle.spg_forest.specs.View.{Leaf}
use Rattle.spg_forest.specs.Tuples.{Tuple, Live}
use Rattle.spg_forest.specs.Walk.{spread_on, lives_on}
use Rattle.spg_forest.specs.Pages.{all_live}
use Rattle.spg_forest.specs.Sheets.{weight, gaps, size_of}
use Rattle.spg_page.specs.Changes.{room_of}
use Rattle.spg_page.specs.Reads.{leaf_in}
use Rattle.spg_split.specs.Placing.{taken_by, placed, HaveRooms}
use Rattle.spg_chain.specs.Listed.{leaves_in, chained}
use Rattle.spg_chain.proofs.Room.{least_weight}
use Rattle.spg_chain.proofs.LiveLists.{leaves_in_live}
use Rattle.spg_chain.proofs.ListTotals.{bytes, count, chain_takes, chain_room, but_first, list_spread, list_fits}

-- over the lists of n nodes from node k on
pub total : (List Leaf → ℕ) → (ℕ → List Leaf) → ℕ → ℕ → ℕ
total g L k zero = 0
total g L k (suc n) = g (L k) + total g L (suc k) n

pub total_split : (g : List Leaf → ℕ) (L : ℕ → List Leaf) (k a n : ℕ) → a ≤ n → total g L k a + total g L (k + a) (n - a) ≡ total g L k n
unfolding total
total_split g L k zero n h = let e : k + 0 ≡ k = omega arith in let f : n - 0 ≡ n = omega arith in let q = ap (λ i. total g L i (n - 0)) e ∙ ap (λ i. total g L k i) f in omega arith
total_split g L k (suc a) zero h = absurd (omega arith)
total_split g L k (suc a) (suc n) h =
    let c = total_split g L (suc k) a n (omega arith) in
    let e : k + suc a ≡ suc k + a = omega arith in let f : suc n - suc a ≡ n - a = omega arith in
    let q = ap (λ i. total g L i (suc n - suc a)) e ∙ ap (λ i. total g L (suc k + a) i) f in omega arith

-- g is a sum of h over the leaves
pub record IsSum (h : Leaf → ℕ) (g : List Leaf → ℕ) : Type 0 where
  pub none : g [] ≡ 0
  pub more : (l : Leaf) (ls : List Leaf) → g (l ∷ ls) ≡ h l + g ls

module _ (h : Leaf → ℕ) (g : List Leaf → ℕ) (G : IsSum h g) where
  pub total_none : (nodes : List ℕ) (k n : ℕ) → total g (λ j. taken_by j [] nodes) k n ≡ 0
  unfolding total
  total_none nodes k zero = refl
  total_none nodes k (suc n) = let a = G.none in let b = total_none nodes (suc k) n in omega arith

  -- a leaf of a node before these
  pub total_past : (t : Tuple) (ts : List Tuple) (a : ℕ) (nodes : List ℕ) (k n : ℕ) → a < k → total g (λ j. taken_by j (t ∷ ts) (a ∷ nodes)) k n ≡ total g (λ j. taken_by j ts nodes) k n
  unfolding total
  total_past t ts a nodes k zero e = refl
  total_past t ts a nodes k (suc n) e =
      let c = ap g (cond-false (nat_eq a k) (leaf_in t ∷ taken_by k ts nodes) (taken_by k ts nodes) (ne_eqb a k (λ q. absurd (omega arith)))) in
      let d = total_past t ts a nodes (suc k) n (omega arith) in omega arith

  pub total_in : (t : Tuple) (ts : List Tuple) (a : ℕ) (nodes : List ℕ) (k n : ℕ) → k ≤ a → a < k + n → total g (λ j. taken_by j (t ∷ ts) (a ∷ nodes)) k n ≡ h (leaf_in t) + total g (λ j. taken_by j ts nodes) k n
  unfolding total
  total_in t ts a nodes k zero e f = absurd (omega arith)
  total_in t ts a nodes k (suc n) e f = ⊎_elim
      (λ q. let c = ap g (cond-true (nat_eq a k) (leaf_in t ∷ taken_by k ts nodes) (taken_by k ts nodes) (eq-eqb a k q)) in
      let m = G.more (leaf_in t) (taken_by k ts nodes) in
      let d = total_past t ts a nodes (suc k) n (omega arith) in omega arith)
      (λ q. let c = ap g (cond-false (nat_eq a k) (leaf_in t ∷ taken_by k ts nodes) (taken_by k ts nodes) (ne_eqb a k q)) in
      let d = total_in t ts a nodes (suc k) n (⊎_elim (λ z. absurd (q (omega arith))) (λ z. z) (cases_lt a (suc k))) (omega arith) in omega arith) (cases_eq a k)

  -- each leaf is in the list of one node
  pub total_all : (ts : List Tuple) (nodes : List ℕ) (n : ℕ) → length ts ≤ length nodes → ((i : ℕ) → i < length nodes → get_or nodes i 0 < n) → total g (λ j. taken_by j ts nodes) 0 n ≡ g (leaves_in ts)
  total_all [] nodes n e small = let a = total_none nodes 0 n in let b = G.none in omega arith
  total_all (t ∷ ts) [] n e small = absurd (omega arith)
  total_all (t ∷ ts) (a ∷ nodes) n e small =
      let b = small 0 (omega arith) in
      let c = total_in t ts a nodes 0 n (omega arith) (omega arith) in
      let d = total_all ts nodes n (omega arith) (λ i w. small (suc i) (omega arith)) in
      let m = G.more (leaf_in t) (leaves_in ts) in omega arith

pub bytes_sum : IsSum (λ l. size_of (Live l 0) + 4) bytes
bytes_sum = record { none = refl; more = λ l ls. refl }

pub count_sum : IsSum (λ l. 1) count
count_sum = record { none = refl; more = λ l ls. omega arith }

least_total : (L : ℕ → List Leaf) (k n : ℕ) → 20 * total count L k n ≤ total bytes L k n
unfolding total
least_total L k zero = omega arith
least_total L k (suc n) = let a = least_weight (L k) in let b = least_total L (suc k) n in omega arith

-- what lists take: the bytes of the page rise by theirs, but for the placeholders that they fill
placed_takes : (ts : List Tuple) (L : ℕ → List Leaf) (k n : ℕ) → weight (placed ts L k n) + 20 * gaps ts ≡ weight ts + total bytes L k n + 20 * gaps (placed ts L k n)
unfolding total
placed_takes ts L k zero = omega arith
placed_takes ts L k (suc n) =
    let (a, b) = chain_takes ts None (L k) tt in
    let c = placed_takes (chained ts 0 (L k)) L (suc k) n in omega arith

-- so they change it, where there is a leaf among them
pub placed_differs : (ts : List Tuple) (L : ℕ → List Leaf) (k n : ℕ) → 0 < total count L k n → placed ts L k n ≡ ts → ⊥
placed_differs ts L k n h e = let a = placed_takes ts L k n in let b = least_total L k n in let w = ap weight e in let g = ap gaps e in absurd (omega arith)

-- lists that have room together have room one after another
pub have_rooms : (ts : List Tuple) (L : ℕ → List Leaf) (k n : ℕ) → weight ts ≤ 8160 → total bytes L k n ≤ room_of ts (total count L k n) → HaveRooms ts L k n
unfolding total
have_rooms ts L k zero f r = tt
have_rooms ts L k (suc n) f r =
    let m = least_total L (suc k) n in
    let (x, y) = chain_room ts None (L k) (total bytes L (suc k) n) (total count L (suc k) n) tt f m r in
    (record { fits = f; room = omega arith }, have_rooms (chained ts 0 (L k)) L (suc k) n x y)

-- the first of the tuples
pub take_live : (ts : List Tuple) (k : ℕ) → ts ≡ all_live (leaves_in ts) → take k ts ≡ all_live (leaves_in (take k ts))
take_live ts k e = ap (take k) e ∙ go (leaves_in ts) k ∙ ap all_live (sym (leaves_in_live (take k (leaves_in ts))) ∙ ap leaves_in (sym (go (leaves_in ts) k) ∙ ap (take k) (sym e)))
  where
    go : (ls : List Leaf) (k : ℕ) → take k (all_live ls) ≡ all_live (take k ls)
    go ls zero = refl
    go [] (suc k) = refl
    go (l ∷ ls) (suc k) = ap (λ us. Live l 0 ∷ us) (go ls k)

-- the lists of leaf tuples have room where all of them have
pub lists_room : (ts : List Tuple) (leaves : List Tuple) (nodes : List ℕ) (n : ℕ) → weight ts ≤ 8160 → leaves ≡ all_live (leaves_in leaves) → length leaves ≤ length nodes → ((i : ℕ) → i < length nodes → get_or nodes i 0 < n) →
    weight leaves ≤ room_of ts (length leaves) → HaveRooms ts (λ j. taken_by j leaves nodes) 0 n
lists_room ts leaves nodes n f live each small r =
    let a = total_all (λ l. size_of (Live l 0) + 4) bytes bytes_sum leaves nodes n each small in
    let b = total_all (λ l. 1) count count_sum leaves nodes n each small in
    let w : weight leaves ≡ bytes (leaves_in leaves) = ap weight live in
    let c : length leaves ≡ length (leaves_in leaves) = len leaves in
    have_rooms ts (λ j. taken_by j leaves nodes) 0 n f (rw (a, b) (rw (← w, ← c) r))
  where
    len : (us : List Tuple) → length us ≡ length (leaves_in us)
    len [] = refl
    len (u ∷ us) = ap suc (len us)

-- lists that have room fit
pub placed_fits : (ts : List Tuple) (L : ℕ → List Leaf) (k n : ℕ) → weight ts ≤ 8160 → HaveRooms ts L k n → weight (placed ts L k n) ≤ 8160
placed_fits ts L k zero f r = f
placed_fits ts L k (suc n) f (r, rs) = placed_fits (chained ts 0 (L k)) L (suc k) n (list_fits ts (L k) r) rs

-- ---- of a chain all leaves but the first

but_first_le : (L : ℕ → List Leaf) (k n : ℕ) → total but_first L k n ≤ total count L k n
unfolding total
but_first_le L k zero = omega arith
but_first_le L k (suc n) = let a = but_first_le L (suc k) n in omega arith

-- one list has a leaf
pub but_first_one : (L : ℕ → List Leaf) (k n i : ℕ) → i < n → 0 < length (L (k + i)) → total but_first L k n + 1 ≤ total count L k n
unfolding total
but_first_one L k zero i h a = absurd (omega arith)
but_first_one L k (suc n) zero h a = let e : k + 0 ≡ k = omega arith in let b : length (L (k + 0)) ≡ length (L k) = ap (λ j. length (L j)) e in let c = but_first_le L (suc k) n in omega arith
but_first_one L k (suc n) (suc i) h a = let e : k + suc i ≡ suc k + i = omega arith in let b : length (L (k + suc i)) ≡ length (L (suc k + i)) = ap (λ j. length (L j)) e in let c = but_first_one L (suc k) n i (omega arith) (omega arith) in omega arith

-- two lists have leaves
pub but_first_two : (L : ℕ → List Leaf) (k n i j : ℕ) → i < j → j < n → 0 < length (L (k + i)) → 0 < length (L (k + j)) → total but_first L k n + 2 ≤ total count L k n
unfolding total
but_first_two L k zero i j q h a b = absurd (omega arith)
but_first_two L k (suc n) i zero q h a b = absurd (omega arith)
but_first_two L k (suc n) zero (suc j) q h a b =
    let e : k + 0 ≡ k = omega arith in let f : length (L (k + 0)) ≡ length (L k) = ap (λ j. length (L j)) e in
    let u : k + suc j ≡ suc k + j = omega arith in let v : length (L (k + suc j)) ≡ length (L (suc k + j)) = ap (λ j. length (L j)) u in
    let c = but_first_one L (suc k) n j (omega arith) (omega arith) in omega arith
but_first_two L k (suc n) (suc i) (suc j) q h a b =
    let e : k + suc i ≡ suc k + i = omega arith in let f : length (L (k + suc i)) ≡ length (L (suc k + i)) = ap (λ j. length (L j)) e in
    let u : k + suc j ≡ suc k + j = omega arith in let v : length (L (k + suc j)) ≡ length (L (suc k + j)) = ap (λ j. length (L j)) u in
    let c = but_first_two L (suc k) n i j (omega arith) (omega arith) (omega arith) (omega arith) in omega arith

-- a tuple of the node is in its list
pub taken_some : (j : ℕ) (ts : List Tuple) (nodes : List ℕ) (i : ℕ) → i < length ts → i < length nodes → get_or nodes i 0 ≡ j → 0 < length (taken_by j ts nodes)
taken_some j [] nodes i a b e = absurd (omega arith)
taken_some j (t ∷ ts) [] i a b e = absurd (omega arith)
taken_some j (t ∷ ts) (n ∷ nodes) zero a b e = let c = ap length (cond-true (nat_eq n j) (leaf_in t ∷ taken_by j ts nodes) (taken_by j ts nodes) (eq-eqb n j e)) in omega arith
taken_some j (t ∷ ts) (n ∷ nodes) (suc i) a b e = let h = taken_some j ts nodes i (omega arith) (omega arith) e in ⊎_elim
    (λ q. let c = ap length (cond-true (nat_eq n j) (leaf_in t ∷ taken_by j ts nodes) (taken_by j ts nodes) (eq-eqb n j q)) in omega arith)
    (λ q. let c = ap length (cond-false (nat_eq n j) (leaf_in t ∷ taken_by j ts nodes) (taken_by j ts nodes) (ne_eqb n j q)) in omega arith) (cases_eq n j)

pub placed_spread : (ts : List Tuple) (L : ℕ → List Leaf) (k n : ℕ) → spread_on (placed ts L k n) ≡ spread_on ts + total but_first L k n
unfolding total
placed_spread ts L k zero = omega arith
placed_spread ts L k (suc n) = let a = list_spread ts (L k) in let b = placed_spread (chained ts 0 (L k)) L (suc k) n in omega arith

pub root_spread : (ls : List Leaf) → (spread_on (all_live ls) ≡ 0) × (lives_on (all_live ls) ≡ length ls)
root_spread [] = (refl, refl)
root_spread (l ∷ ls) = let (a, b) = root_spread ls in (omega arith, omega arith)
