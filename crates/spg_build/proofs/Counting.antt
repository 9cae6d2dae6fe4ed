-- How many values each node has, counted one after another.
use Rattle.std.proofs.Common.{◌≡◌, ℕ, suc, ◌+◌, ◌^◌, ◌<◌, ◌≤◌, List, [], ◌∷◌, length, get_or, nat_eq, ⊎_elim, refl, sym, ap, ◌∙◌, subst, arith}
use Rattle.std.proofs.lemmas.Bool.{cases_eq, cond-true, cond-false, eq-eqb, ne_eqb}
use Rattle.spg_build.specs.Counts.{count_in, CountsOne}

named : (j k : ℕ) (ks : List ℕ) → k ≡ j → count_in j (k ∷ ks) ≡ suc (count_in j ks)
named j k ks e = cond-true (nat_eq k j) (suc (count_in j ks)) (count_in j ks) (eq-eqb k j e)

other : (j k : ℕ) (ks : List ℕ) → (k ≡ j → ⊥) → count_in j (k ∷ ks) ≡ count_in j ks
other j k ks n = cond-false (nat_eq k j) (suc (count_in j ks)) (count_in j ks) (ne_eqb k j n)

count_most : (j : ℕ) (ks : List ℕ) → count_in j ks ≤ length ks
count_most j [] = omega arith
count_most j (k ∷ ks) = let b = count_most j ks in ⊎_elim (λ e. let a = named j k ks e in omega arith) (λ n. let a = other j k ks n in omega arith) (cases_eq k j)

module _ (ns : List ℕ) (k n : ℕ) (nodes now next : List ℕ) (e : now ≡ k ∷ next) (h : (j : ℕ) (d : ℕ) → j < n → get_or ns j d + count_in j now ≡ count_in j nodes) where
  -- one node more is counted
  pub counts_turn : (ms : List ℕ) → CountsOne ns ms k → (j : ℕ) (d : ℕ) → j < n → get_or ms j d + count_in j next ≡ count_in j nodes
  counts_turn ms one j d b = ⊎_elim
      (λ q. let a = subst (λ i. get_or ms i d ≡ get_or ns i d + 1) q (one.one d) in let f = ap (count_in j) e ∙ named j k next q in let g = h j d b in omega arith)
      (λ q. let a = one.others j d (λ r. q (sym r)) in let f = ap (count_in j) e ∙ other j k next q in let g = h j d b in omega arith)
      (cases_eq k j)

  -- and its count is no more than there are
  pub counts_few : k < n → length nodes < 2 ^ 64 → (d : ℕ) → get_or ns k d + 1 < 2 ^ 64
  counts_few b long d = let f = ap (count_in k) e ∙ named k k next refl in let g = h k d b in let a = count_most k nodes in omega arith
