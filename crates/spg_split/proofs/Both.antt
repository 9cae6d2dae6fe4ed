-- Lists put on two pages.
use Rattle.std.proofs.Common.{◌≡◌, ℕ, zero, suc, ◌-◌, ◌≤◌, List, [], ◌∷◌, ◌++◌, Option, length, length-append, take, drop, append-nil, refl, ap, ap₂, ◌∙◌, arith}
use Rattle.std.proofs.lemmas.List.{length-drop}
use Rattle.std.proofs.Math.Seq.{drop-length}
use Rattle.spg_forest.specs.View.{Place, Leaf}
use Rattle.spg_forest.specs.Tuples.{Tuple}
use Rattle.spg_tree.specs.Table.{Table, tuples_at}
use Rattle.spg_split.specs.Placing.{downlinks}
use Rattle.spg_split.specs.Writing.{lists_table, both_links}
use Rattle.spg_split.proofs.Chaining.{downlinks_length}

-- the downlinks after the first of the two pages
first_are : (b : ℕ) (ts : List Tuple) (L : ℕ → List Leaf) (k : ℕ) (old new : List (Option Place)) → new ≡ take 0 old ++ downlinks b ts L 0 (k - 0) ++ drop k old → new ≡ downlinks b ts L 0 k ++ drop k old
first_are b ts L k old new e = let z : k - 0 ≡ k = omega arith in e ∙ ap (λ i. downlinks b ts L 0 i ++ drop k old) z

pub first_length : (b : ℕ) (ts : List Tuple) (L : ℕ → List Leaf) (k : ℕ) (old new : List (Option Place)) → k ≤ length old → new ≡ take 0 old ++ downlinks b ts L 0 (k - 0) ++ drop k old → length new ≡ length old
first_length b ts L k old new h e =
    let a = ap length (first_are b ts L k old new e) in
    let c = length-append (downlinks b ts L 0 k) (drop k old) in
    let d = downlinks_length b ts L 0 k in
    let f = length-drop k old in omega arith

take_front : (xs ys : List (Option Place)) (k : ℕ) → length xs ≡ k → take k (xs ++ ys) ≡ xs
take_front [] ys zero e = refl
take_front [] ys (suc k) e = absurd (omega arith)
take_front (x ∷ xs) ys zero e = absurd (omega arith)
take_front (x ∷ xs) ys (suc k) e = ap (λ zs. x ∷ zs) (take_front xs ys k (omega arith))

pub both_links_are : (t t1 : Table) (b c : ℕ) (L : ℕ → List Leaf) (k n : ℕ) (old mid new : List (Option Place)) → k ≤ length old → n ≡ length old → t1 ≡ lists_table t b L 0 (k - 0) →
    mid ≡ take 0 old ++ downlinks b (tuples_at t b) L 0 (k - 0) ++ drop k old → new ≡ take k mid ++ downlinks c (tuples_at t1 c) L k (n - k) ++ drop n mid → new ≡ both_links t b c L k (length old)
both_links_are t t1 b c L k n old mid new h en et em e =
    let z : k - 0 ≡ k = omega arith in
    let f = first_are b (tuples_at t b) L k old mid em in
    let g : take k mid ≡ downlinks b (tuples_at t b) L 0 k = ap (take k) f ∙ take_front (downlinks b (tuples_at t b) L 0 k) (drop k old) k (downlinks_length b (tuples_at t b) L 0 k) in
    let len = first_length b (tuples_at t b) L k old mid h em in
    let q : n ≡ length mid = omega arith in
    let d : drop n mid ≡ [] = ap (λ i. drop i mid) q ∙ drop-length mid in
    e ∙ ap₂ (λ xs ys. xs ++ downlinks c (tuples_at t1 c) L k (n - k) ++ ys) g d
    ∙ append-nil (downlinks b (tuples_at t b) L 0 k ++ downlinks c (tuples_at t1 c) L k (n - k))
    ∙ ap₂ (λ (u : Table) i. downlinks b (tuples_at t b) L 0 k ++ downlinks c (tuples_at u c) L k (i - k)) (et ∙ ap (lists_table t b L 0) z) en
