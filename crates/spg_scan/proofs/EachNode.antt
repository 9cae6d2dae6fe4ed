-- A class keeps each node of an inner tuple where there are no conditions.
use Rattle.std.proofs.Common.{◌≡◌, ℕ, zero, suc, ◌+◌, ◌<◌, ◌≤◌, true, List, [], ◌∷◌, ◌++◌, length, Option, ⊎_elim, refl, ap, ap₂, ◌∙◌, arith}
use Rattle.std.specs.Prelude.{Contains}
use Rattle.std.specs.List.{AllPairs}
use Rattle.std.proofs.lemmas.List.Kept.{AllPairs-from_increasing}
use Rattle.std.proofs.lemmas.List.Elements.{All-nil, All-contains}
use Rattle.spg_opclass.specs.Meaning.{Meaning, is_tuple}
use Rattle.spg_opclass.specs.Laws.{KeptLaw}
use Rattle.spg_forest.specs.View.{Place}
use Rattle.spg_forest.specs.Spot.{Frame}
use Rattle.spg_forest.specs.Walk.{below}
use Rattle.spg_scan.proofs.CoverNodes.{contains_here, contains_behind, contains_cases, contains_none}

-- the n numbers from j on
abbrev from_on : ℕ → ℕ → List ℕ
from_on j zero = []
from_on j (suc n) = j ∷ from_on (suc j) n

from_more : (j n : ℕ) → from_on j (suc n) ≡ from_on j n ++ (j + n) ∷ []
from_more j zero = let e : j ≡ j + 0 = omega arith in ap (λ (k : ℕ). k ∷ []) e
from_more j (suc n) = let e : suc j + n ≡ j + suc n = omega arith in ap (λ (z : List ℕ). j ∷ z) (from_more (suc j) n ∙ ap (λ (k : ℕ). from_on (suc j) n ++ k ∷ []) e)

from_below : (n : ℕ) → from_on 0 n ≡ below n
from_below zero = refl
from_below (suc n) = let e : 0 + n ≡ n = omega arith in from_more 0 n ∙ ap (λ (k : ℕ). from_on 0 n ++ k ∷ []) e ∙ ap (λ (z : List ℕ). z ++ n ∷ []) (from_below n)

-- the head of a rising list is below what follows
behind : (x : ℕ) (xs : List ℕ) → AllPairs (λ x y. x < y) (x ∷ xs) → (y : ℕ) → Contains xs y → x < y
behind x xs p y (k, g, q) = let l = p 0 (suc k) y (omega arith) (omega arith) in omega arith

rising_is : (j n : ℕ) (xs : List ℕ) → AllPairs (λ x y. x < y) xs → ((k : ℕ) → Contains xs k → (j ≤ k) × (k < j + n)) → ((k : ℕ) → j ≤ k → k < j + n → Contains xs k) → xs ≡ from_on j n
rising_is j zero [] p to from = refl
rising_is j zero (x ∷ xs) p to from = let (a, b) = to x (contains_here x xs) in absurd (omega arith)
rising_is j (suc n) [] p to from = absurd (contains_none j (from j (omega arith) (omega arith)))
rising_is j (suc n) (x ∷ xs) p to from =
    let (a, b) = to x (contains_here x xs) in
    let e : x ≡ j = ⊎_elim (λ h. h) (λ h. let l = behind x xs p j h in absurd (omega arith)) (contains_cases x j xs (from j (omega arith) (omega arith))) in
    ap₂ (λ (u : ℕ) (v : List ℕ). u ∷ v) e (rising_is (suc j) n xs (λ k l d g q. p (suc k) (suc l) d (omega arith) (omega arith))
    (λ k h. let (c, d) = to k (contains_behind x k xs h) in let l = behind x xs p k h in (omega arith, omega arith))
    (λ k c d. ⊎_elim (λ h. absurd (omega arith)) (λ h. h) (contains_cases x k xs (from k (omega arith) (omega arith)))))

pub kept_all : {Key Recon Cond : Type 0} (m : Meaning Key Recon Cond) → KeptLaw m → (recon : Recon) (w : Frame) (ns : List (Option Place)) → m.is_recon recon ≡ true → is_tuple m w ≡ true → length ns ≡ length w.labels → m.kept recon w [] ≡ below (length ns)
kept_all m law recon w ns a b e =
    let kept = law recon w [] a b (All-nil (λ c. m.is_cond c ≡ true)) in
    rising_is 0 (length ns) (m.kept recon w []) (AllPairs-from_increasing (m.kept recon w []) kept.ordered)
    (λ k h. let c = All-contains (λ i. i < length w.labels) (m.kept recon w []) k kept.there h in (omega arith, omega arith))
    (λ k c d. kept.unasked refl k (omega arith))
    ∙ from_below (length ns)
