-- The lists of all nodes on their way to a page.
use Rattle.std.proofs.Common.{◌≡◌, ℕ, zero, suc, ◌+◌, ◌-◌, ◌≤◌, ◌<◌, List, [], ◌∷◌, ◌++◌, Option, length, length-set, set, take, drop, append_assoc, append-nil, refl, sym, ap, ap₂, ◌∙◌, subst, arith}
use Rattle.std.proofs.lemmas.List.{take_more_set}
use Rattle.std.proofs.Math.Seq.{drop-length}
use Rattle.spg_forest.specs.View.{Place, Leaf}
use Rattle.spg_forest.specs.Tuples.{Tuple}
use Rattle.spg_forest.specs.Sheets.{Sheet, with_tuples}
use Rattle.spg_split.specs.Placing.{head_of, downlink, placed, downlinks, HaveRooms}
use Rattle.spg_chain.specs.Listed.{chained, HaveRoom}

-- the lists L of the nodes from a on and below n were to be put on the page p; those from node k on are still to be put on the page q
pub record IsPlacing (p : Sheet) (L : ℕ → List Leaf) (a n b : ℕ) (old : List (Option Place)) (q : Sheet) (to : List (Option Place)) (k : ℕ) : Type 0 where
  pub page : q ≡ with_tuples p q.tuples
  pub same : placed p.tuples L a (n - a) ≡ placed q.tuples L k (n - k)
  pub links : take a old ++ downlinks b p.tuples L a (n - a) ≡ take k to ++ downlinks b q.tuples L k (n - k)
  pub behind : drop n to ≡ drop n old
  pub room : HaveRooms q.tuples L k (n - k)
  pub count : length to ≡ length old
  pub within : k ≤ n

pub placing_begun : (p : Sheet) (L : ℕ → List Leaf) (a n b : ℕ) (to : List (Option Place)) → a ≤ n → HaveRooms p.tuples L a (n - a) → IsPlacing p L a n b to p to a
placing_begun p L a n b to h H = record { page = refl; same = refl; links = refl; behind = refl; room = H; count = refl; within = h }

-- the list of the next node has room
pub next_room : (p : Sheet) (L : ℕ → List Leaf) (a n b : ℕ) (old : List (Option Place)) (q : Sheet) (links : List (Option Place)) (k : ℕ) → IsPlacing p L a n b old q links k → k < n → HaveRoom q.tuples (L k)
next_room p L a n b old q links k P h =
    let e : n - k ≡ suc (n - (k + 1)) = omega arith in
    (subst (λ i. HaveRooms q.tuples L k i) e P.room).0

pub next_placed : (p : Sheet) (L : ℕ → List Leaf) (a n b : ℕ) (old : List (Option Place)) (q : Sheet) (links : List (Option Place)) (k : ℕ) (q2 : Sheet) (head : Option ℕ) (to : Option Place) → IsPlacing p L a n b old q links k → k < n → n ≤ length old →
    head ≡ head_of q.tuples (L k) → q2 ≡ with_tuples q (chained q.tuples 0 (L k)) → to ≡ downlink b head → IsPlacing p L a n b old q2 (set links k to) (k + 1)
next_placed p L a n b old q links k q2 head to P h le eh eq et =
    let e : n - k ≡ suc (n - (k + 1)) = omega arith in
    let s : suc k ≡ k + 1 = omega arith in
    let us : List Tuple = chained q.tuples 0 (L k) in
    let t : q2.tuples ≡ us = ap (λ (z : Sheet). z.tuples) eq in
    let c = P.count in
    let r : HaveRoom q.tuples (L k) × HaveRooms us L (suc k) (n - (k + 1)) = subst (λ i. HaveRooms q.tuples L k i) e P.room in
    let x : to ≡ downlink b (head_of q.tuples (L k)) = et ∙ ap (downlink b) eh in
    let m : take (k + 1) (set links k to) ≡ take k links ++ to ∷ [] = take_more_set links k to (omega arith) in
    record {
      page = eq ∙ ap (λ (z : Sheet). with_tuples z us) P.page ∙ ap (λ vs. with_tuples p vs) (sym t);
      same = P.same ∙ ap (λ i. placed q.tuples L k i) e ∙ ap₂ (λ vs i. placed vs L i (n - (k + 1))) (sym t) s;
      links = P.links ∙ ap (λ i. take k links ++ downlinks b q.tuples L k i) e
          ∙ ap (λ y. take k links ++ y ∷ downlinks b us L (suc k) (n - (k + 1))) (sym x)
          ∙ sym (append_assoc (take k links) (to ∷ []) (downlinks b us L (suc k) (n - (k + 1))))
          ∙ ap (λ zs. zs ++ downlinks b us L (suc k) (n - (k + 1))) (sym m)
          ∙ ap₂ (λ vs i. take (k + 1) (set links k to) ++ downlinks b vs L i (n - (k + 1))) (sym t) s;
      behind = drop_past n links k to h ∙ P.behind;
      room = subst (λ vs. HaveRooms vs L (k + 1) (n - (k + 1))) (sym t) (subst (λ i. HaveRooms us L i (n - (k + 1))) s r.1);
      count = length-set links k to ∙ c;
      within = omega arith;
    }
  where
    drop_past : (n : ℕ) (xs : List (Option Place)) (k : ℕ) (y : Option Place) → k < n → drop n (set xs k y) ≡ drop n xs
    drop_past zero xs k y h = absurd (omega arith)
    drop_past (suc n) [] k y h = refl
    drop_past (suc n) (x ∷ xs) zero y h = refl
    drop_past (suc n) (x ∷ xs) (suc k) y h = drop_past n xs k y (omega arith)

-- all lists are put
pub placing_done : (p : Sheet) (L : ℕ → List Leaf) (a n b : ℕ) (old : List (Option Place)) (q : Sheet) (to : List (Option Place)) (k : ℕ) → IsPlacing p L a n b old q to k → n ≤ k →
    (q ≡ with_tuples p (placed p.tuples L a (n - a))) × (to ≡ take a old ++ downlinks b p.tuples L a (n - a) ++ drop n old)
placing_done p L a n b old q to k P h =
    let w = P.within in
    let e : n - k ≡ 0 = omega arith in
    let l : k ≡ n = omega arith in (
      P.page ∙ ap (λ vs. with_tuples p vs) (sym (P.same ∙ ap (λ i. placed q.tuples L k i) e)),
      sym (ap (λ zs. zs ++ drop n old) (P.links ∙ ap (λ i. take k to ++ downlinks b q.tuples L k i) e ∙ append-nil (take k to) ∙ ap (λ i. take i to) l)
          ∙ ap (λ zs. take n to ++ zs) (sym P.behind) ∙ take_drop n to),
    )
  where
    take_drop : (n : ℕ) (xs : List (Option Place)) → take n xs ++ drop n xs ≡ xs
    take_drop zero xs = refl
    take_drop (suc n) [] = refl
    take_drop (suc n) (x ∷ xs) = ap (λ ys. x ∷ ys) (take_drop n xs)

-- of all nodes
pub all_placed : (b : ℕ) (ts : List Tuple) (L : ℕ → List Leaf) (old new : List (Option Place)) (n : ℕ) → n ≡ length old → new ≡ take 0 old ++ downlinks b ts L 0 (n - 0) ++ drop n old → new ≡ downlinks b ts L 0 (length old)
all_placed b ts L old new n e a =
    let z : n - 0 ≡ length old = omega arith in
    a ∙ ap₂ (λ i zs. downlinks b ts L 0 i ++ zs) z (ap (λ i. drop i old) e ∙ drop-length old) ∙ append-nil (downlinks b ts L 0 (length old))
