-- The blocks that a section touches.
use Rattle.std.proofs.Common.{◌≡◌, ℕ, zero, suc, ◌+◌, ◌≤◌, ◌<◌, ◌||◌, nat_eq, nat_le, Bool, true, false, List, [], ◌∷◌, ◌++◌, ◌⊎◌, ⊎_elim, length, refl, sym, ◌∙◌, inl, inr, arith}
use Rattle.std.specs.Prelude.{if◌then◌else◌}
use Rattle.std.specs.List.{range_with_len}
use Rattle.std.proofs.lemmas.Bool.{cases_eq, cases_lt, leb-true, eqb-true, eq-eqb, le-leb, or_cases}
use Rattle.spg_forest.specs.Tuples.{IsAmong}
use Rattle.spg_forest.specs.Exact.{AreOnce}
use Rattle.spg_tree.specs.Another.{another}

pub left_among : (e : ℕ) (xs ys : List ℕ) → IsAmong e xs → IsAmong e (xs ++ ys)
left_among e [] ys a = absurd a
left_among e (x ∷ xs) ys (inl q) = inl q
left_among e (x ∷ xs) ys (inr a) = inr (left_among e xs ys a)

pub right_among : (e : ℕ) (xs ys : List ℕ) → IsAmong e ys → IsAmong e (xs ++ ys)
right_among e [] ys a = a
right_among e (x ∷ xs) ys a = inr (right_among e xs ys a)

pub range_among : (n a e : ℕ) → a ≤ e → e < a + n → IsAmong e (range_with_len a n)
range_among zero a e h k = absurd (omega arith)
range_among (suc n) a e h k = ⊎_elim (λ q. inl q) (λ q. inr (range_among n (a + 1) e (⊎_elim (λ z. absurd (q (omega arith))) (λ z. z) (cases_lt e (a + 1))) (omega arith))) (cases_eq e a)

pub another_few : (b o end : ℕ) → length (another b o end) ≤ 1
another_few b o end = go (nat_eq b o || nat_le end b)
  where
    go : (x : Bool) → length (if x then [] else b ∷ []) ≤ 1
    go true = omega arith
    go false = omega arith

-- a block is the other one, or new, or named
pub another_cases : (b o end : ℕ) → (b ≡ o) ⊎ (end ≤ b) ⊎ IsAmong b (another b o end)
another_cases b o end = go (nat_eq b o || nat_le end b) refl
  where
    go : (x : Bool) → nat_eq b o || nat_le end b ≡ x → (b ≡ o) ⊎ (end ≤ b) ⊎ IsAmong b (if x then [] else b ∷ [])
    go true e = ⊎_elim (λ q. inl (eqb-true b o q)) (λ q. inr (inl (leb-true end b q))) (or_cases (nat_eq b o) (nat_le end b) e)
    go false e = inr (inr (inl refl))

and_none : (a b : Bool) → a || b ≡ false → (a ≡ false) × (b ≡ false)
and_none true b e = cc
and_none false b e = (refl, e)

-- one that is named is not the other one, and not new
pub another_is : (e b o end : ℕ) → IsAmong e (another b o end) → (e ≡ b) × (b ≡ o → ⊥) × (b < end)
another_is e b o end a = go (nat_eq b o || nat_le end b) refl a
  where
    go : (x : Bool) → nat_eq b o || nat_le end b ≡ x → IsAmong e (if x then [] else b ∷ []) → (e ≡ b) × (b ≡ o → ⊥) × (b < end)
    go true q i = absurd i
    go false q (inr i) = absurd i
    go false q (inl i) =
        let (x, y) = and_none (nat_eq b o) (nat_le end b) q in
        (i, (λ k. let c : true ≡ false = sym (eq-eqb b o k) ∙ x in cc), ⊎_elim (λ h. h) (λ h. absurd (let c : true ≡ false = sym (le-leb end b h) ∙ y in cc)) (cases_lt b end))

pub another_once : (b o end : ℕ) → AreOnce (another b o end)
another_once b o end = go (nat_eq b o || nat_le end b)
  where
    go : (x : Bool) → AreOnce (if x then [] else b ∷ [])
    go true = tt
    go false = ((λ i. i), tt)
