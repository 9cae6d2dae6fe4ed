-- What holds of the first of a list, one more at a time.
use Rattle.std.proofs.Common.{◌≡◌, ◌<◌, ◌≤◌, ◌+◌, ℕ, zero, suc, List, [], ◌∷◌, length, take, get_or, Result, Ok, Err, OnOk, subst, arith}
use Rattle.std.specs.List.{AllByRecursion}

-- one more
pub all_more : {A : Type 0} (P : A → Type 0) (xs : List A) (i : ℕ) (x : A) → i < length xs → x ≡ get_or xs i x → AllByRecursion P (take i xs) → P x → AllByRecursion P (take (i + 1) xs)
all_more P [] i x within is all one = absurd (omega arith)
all_more P (y ∷ xs) zero x within is all one = (subst P is one, tt)
all_more P (y ∷ xs) (suc i) x within is all one =
    let more : suc (i + 1) ≡ suc i + 1 = omega arith in
    subst (λ k. AllByRecursion P (take k (y ∷ xs))) more (all.0, all_more P xs i x (omega (arith, within)) is all.1 one)

-- all of them
pub all_taken : {A : Type 0} (P : A → Type 0) (xs : List A) (i : ℕ) → length xs ≤ i → AllByRecursion P (take i xs) → AllByRecursion P xs
all_taken P [] i past all = tt
all_taken P (x ∷ xs) zero past all = absurd (omega arith)
all_taken P (x ∷ xs) (suc i) past all = (all.0, all_taken P xs i (omega (arith, past)) all.1)

-- what holds anyway holds where it went well
pub OnOk-always : {T E : Type 0} (r : Result T E) (P : Type 0) → P → OnOk r P
OnOk-always (Ok done) P is = is
OnOk-always (Err refused) P is = tt
