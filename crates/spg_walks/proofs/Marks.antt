-- Marks on numbers: how many there are below a bound.
use Rattle.std.proofs.Common.{◌≡◌, ℕ, zero, suc, ◌+◌, ◌<◌, ◌≤◌, Bool, true, false, ◌||◌, nat_eq, ⊎_elim, refl, ap, arith}
use Rattle.std.proofs.lemmas.Bool.{cases_eq, ne_eqb, eq-eqb}

abbrev pub mark : Bool → ℕ
mark true = 1
mark false = 0

abbrev pub count : (ℕ → Bool) → ℕ → ℕ
count f zero = 0
count f (suc n) = mark (f n) + count f n

pub count_few : (f : ℕ → Bool) (n : ℕ) → count f n ≤ n
count_few f zero = omega arith
count_few f (suc n) = let a = count_few f n in let b = one (f n) in omega (arith, a, b)
  where
    one : (b : Bool) → mark b ≤ 1
    one true = omega arith
    one false = omega arith

pub count_none : (n : ℕ) → count (λ i. false) n ≡ 0
count_none zero = refl
count_none (suc n) = let a = count_none n in omega (arith, a)

pub count_or : (f g : ℕ → Bool) → ((i : ℕ) → f i ≡ true → g i ≡ true → ⊥) → (n : ℕ) → count (λ i. f i || g i) n ≡ count f n + count g n
count_or f g h zero = omega arith
count_or f g h (suc n) = let a = count_or f g h n in let b = one (f n) (g n) (h n) in omega (arith, a, b)
  where
    one : (a b : Bool) → (a ≡ true → b ≡ true → ⊥) → mark (a || b) ≡ mark a + mark b
    one true true k = absurd (k refl refl)
    one true false k = omega arith
    one false true k = omega arith
    one false false k = omega arith

-- one mark
pub count_one : (a n : ℕ) → a < n → count (nat_eq a) n ≡ 1
count_one a zero h = absurd (omega arith)
count_one a (suc n) h = ⊎_elim
    (λ e. let b = past n (omega arith) in let c : mark (nat_eq a n) ≡ 1 = ap mark (eq-eqb a n e) in omega (arith, b, c))
    (λ u. let b = count_one a n (omega arith) in let c : mark (nat_eq a n) ≡ 0 = ap mark (ne_eqb a n u) in omega (arith, b, c)) (cases_eq a n)
  where
    past : (k : ℕ) → k ≤ a → count (nat_eq a) k ≡ 0
    past zero g = refl
    past (suc k) g = let b = past k (omega arith) in let c : mark (nat_eq a k) ≡ 0 = ap mark (ne_eqb a k (λ e. omega arith)) in omega (arith, b, c)
