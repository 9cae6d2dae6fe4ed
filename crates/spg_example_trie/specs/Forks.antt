-- Where numbers part, and on which side of it they are.
use Rattle.std.proofs.Common.{◌≡◌, ◌≢◌, ℕ, zero, suc, cond, ◌-◌, ◌*◌, ◌/◌, ◌^◌, ◌<◌, ◌≤◌, Bool, true, false, List, [], ◌∷◌, get_or, Some, refl, sym, ◌∙◌, inl, inr, arith, lit<}
use Rattle.std.specs.Prelude.{nat_lt, All, slice_get}
use Rattle.std.specs.List.{fold}
use Rattle.std.specs.Int.{w64, to_le_bytes}
use Rattle.std.proofs.lemmas.Bool.{ltb-true, ltb-false, cases_lt, cases_eq}
use Rattle.std.proofs.lemmas.List.Elements.{All-head, All-tail, All-nil, All-cons, All-weaker}
use Rattle.std.proofs.lemmas.Nat.{pow_pos, shr_split}
use Rattle.std.proofs.Math.Nat.{mod-lt, mul-le-mul_right, le-div_iff_mul-le, div-mul-le_self}
use Rattle.spg_example_trie.specs.Numbers.{number_of}
use Rattle.spg_example_trie.specs.Trie.{side, fork, IsFork, least, greatest, fork_of, lower, higher}
use Rattle.spg_example_trie.specs.Rests.{number_below, number_back, at_rest}

pub by_side : (f n : ℕ) (P : ℕ → Type 0) → (n < f → P 0) → (f ≤ n → P 1) → P (side f n)
unfolding side
by_side f n P g h = by_test (nat_lt n f) refl
  where
    by_test : (b : Bool) → nat_lt n f ≡ b → P (cond b 0 1)
    by_test true e = g (ltb-true n f e)
    by_test false e = h (ltb-false n f e)

pub side_below : (f n : ℕ) → side f n < 2
side_below f n = by_side f n (λ k. k < 2) (λ _. lit< tt) (λ _. lit< tt)

on_low : (f n : ℕ) → side f n ≡ 0 → n < f
on_low f n = by_side f n (λ k. k ≡ 0 → n < f) (λ l e. l) (λ l e. absurd (omega arith))

on_high : (f n : ℕ) → side f n ≢ 0 → f ≤ n
on_high f n = by_side f n (λ k. k ≢ 0 → f ≤ n) (λ l e. absurd (e refl)) (λ l e. l)

-- what differs above a bit leaves room for a number whose bits end there
between : (bit low high : ℕ) → low / 2 ^ bit < high / 2 ^ bit → low < high / 2 ^ bit * 2 ^ bit
between bit low high h = omega (arith, shr_split low bit, mod-lt low (pow_pos bit), mul-le-mul_right (2 ^ bit) h)

by_bit : (bit low high : ℕ) (P : ℕ → Type 0) → (low / 2 ^ bit < high / 2 ^ bit → P (high / 2 ^ bit * 2 ^ bit)) → (high / 2 ^ bit ≤ low / 2 ^ bit → P (fork bit low high)) → P (fork (suc bit) low high)
unfolding fork
by_bit bit low high P g h = by_test (nat_lt (low / 2 ^ bit) (high / 2 ^ bit)) refl
  where
    by_test : (b : Bool) → nat_lt (low / 2 ^ bit) (high / 2 ^ bit) ≡ b → P (cond b (high / 2 ^ bit * 2 ^ bit) (fork bit low high))
    by_test true e = g (ltb-true (low / 2 ^ bit) (high / 2 ^ bit) e)
    by_test false e = h (ltb-false (low / 2 ^ bit) (high / 2 ^ bit) e)

pub fork_most : (bits low high : ℕ) → fork bits low high ≤ high
unfolding fork
fork_most zero low high = omega arith
fork_most (suc bit) low high = by_bit bit low high (λ f. f ≤ high) (λ _. omega (arith, shr_split high bit)) (λ _. fork_most bit low high)

pub fork_above : (bits low high : ℕ) → low < high → low < fork bits low high
unfolding fork
fork_above zero low high h = h
fork_above (suc bit) low high h = by_bit bit low high (λ f. low < f) (between bit low high) (λ _. fork_above bit low high h)

-- numbers that differ below a bit alone part at the fork
forks : (bits low high : ℕ) → low < high → low / 2 ^ bits ≡ high / 2 ^ bits → IsFork low high (fork bits low high)
forks zero low high l e = absurd (omega (arith, l, e))
forks (suc bit) low high l e = by_bit bit low high (IsFork low high)
    (λ differ. record { bit = bit; shared = e; differs = differ; begins = refl })
    (λ fine. forks bit low high l (omega (arith, fine, not_less (2 ^ bit) low high (pow_pos bit) l)))
  where
    not_less : (p low high : ℕ) → 0 < p → low < high → low / p ≤ high / p
    not_less p low high h l = (le-div_iff_mul-le h).1 (omega (arith, l, div-mul-le_self low p))

pub forks_of_64 : (low high : ℕ) → low < 2 ^ 64 → high < 2 ^ 64 → low < high → IsFork low high (fork 64 low high)
forks_of_64 low high p q l = forks 64 low high l (omega (arith, p, q))

highest_bounds : (a : ℕ) (rests : List (List ℕ)) → (a ≤ fold higher a rests) × All (λ r. number_of r ≤ fold higher a rests) rests
highest_bounds a [] = (omega arith, All-nil (λ r. number_of r ≤ a))
highest_bounds a (r ∷ rs) =
    let q = highest_bounds (higher a r) rs in
    (omega (arith, q.0), All-cons (λ x. number_of x ≤ fold higher a (r ∷ rs)) r rs (omega (arith, q.0)) q.1)

highest_within : (a b : ℕ) (rests : List (List ℕ)) → a ≤ b → All (λ r. number_of r ≤ b) rests → fold higher a rests ≤ b
highest_within a b [] h all = h
highest_within a b (r ∷ rs) h all =
    let first = All-head (λ x. number_of x ≤ b) r rs all in
    highest_within (higher a r) b rs (omega (arith, first)) (All-tail (λ x. number_of x ≤ b) r rs all)

lowest_bounds : (a : ℕ) (rests : List (List ℕ)) → (fold lower a rests ≤ a) × All (λ r. fold lower a rests ≤ number_of r) rests
lowest_bounds a [] = (omega arith, All-nil (λ r. a ≤ number_of r))
lowest_bounds a (r ∷ rs) =
    let q = lowest_bounds (lower a r) rs in
    (omega (arith, q.0), All-cons (λ x. fold lower a (r ∷ rs) ≤ number_of x) r rs (omega (arith, q.0)) q.1)

lowest_within : (a b : ℕ) (rests : List (List ℕ)) → b ≤ a → All (λ r. b ≤ number_of r) rests → b ≤ fold lower a rests
lowest_within a b [] h all = h
lowest_within a b (r ∷ rs) h all =
    let first = All-head (λ x. b ≤ number_of x) r rs all in
    lowest_within (lower a r) b rs (omega (arith, first)) (All-tail (λ x. b ≤ number_of x) r rs all)

-- the fork is a number of 64 bits
top : (n m : ℕ) → n ≤ m → m ≤ 2 ^ 64 - 1 → n < 2 ^ 64
top n m h k = omega (arith, h, k)

under_top : (n : ℕ) → n < 2 ^ 64 → n ≤ 2 ^ 64 - 1
under_top n h = omega (arith, h)

fork_below : (rests : List (List ℕ)) → fork_of rests < 2 ^ 64
unfolding fork_of greatest
fork_below rests =
    let most = highest_within 0 (2 ^ 64 - 1) rests (omega arith) (λ k d l. under_top (number_of (get_or rests k d)) (number_below (get_or rests k d))) in
    top (fork_of rests) (fold higher 0 rests) (fork_most 64 (least rests) (fold higher 0 rests)) most

pub fork_back : (rests : List (List ℕ)) → number_of (to_le_bytes w64 (fork_of rests)) ≡ fork_of rests
fork_back rests = number_back (fork_of rests) (fork_below rests)

-- numbers that are all on one side are one number
pub one_number : (rests : List (List ℕ)) (node : ℕ) → All (λ r. side (fork_of rests) (number_of r) ≡ node) rests
    → (i j : ℕ) (a b : List ℕ) → slice_get rests i ≡ Some a → slice_get rests j ≡ Some b → number_of a ≡ number_of b
unfolding fork_of least greatest
one_number rests node all i j a b p q =
    let low = fold lower (2 ^ 64 - 1) rests in
    let high = fold higher 0 rests in
    let f = fork 64 low high in
    let most = fork_most 64 low high in
    elim (cases_eq node 0) [
      | inl first ↦
          let under = All-weaker (λ r. side f (number_of r) ≡ node) (λ r. number_of r < f) (λ r e. on_low f (number_of r) (e ∙ first)) rests all in
          let some = at_rest (λ r. number_of r < f) rests i a under p in
          absurd (omega (arith, some, most, highest_within 0 (f - 1) rests (omega arith) (All-weaker (λ r. number_of r < f) (λ r. number_of r ≤ f - 1) (λ r l. omega (arith, l)) rests under)))
      | inr other ↦
          let over = All-weaker (λ r. side f (number_of r) ≡ node) (λ r. f ≤ number_of r) (λ r e. on_high f (number_of r) (λ z. other (sym e ∙ z))) rests all in
          let least_above = lowest_within (2 ^ 64 - 1) f rests (under_top f (fork_below rests)) over in
          let A = at_rest (λ r. number_of r ≤ high) rests i a (highest_bounds 0 rests).1 p in
          let B = at_rest (λ r. number_of r ≤ high) rests j b (highest_bounds 0 rests).1 q in
          let C = at_rest (λ r. low ≤ number_of r) rests i a (lowest_bounds (2 ^ 64 - 1) rests).1 p in
          let D = at_rest (λ r. low ≤ number_of r) rests j b (lowest_bounds (2 ^ 64 - 1) rests).1 q in
          elim (cases_lt low high) [
            | inl less ↦ absurd (omega (arith, fork_above 64 low high less, least_above))
            | inr same ↦ omega (arith, A, B, C, D)
          ]
    ]
