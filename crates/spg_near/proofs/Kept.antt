-- For no condition a class keeps each node.
use Rattle.std.proofs.Common.{◌≡◌, ⊎_elim, ℕ, zero, suc, ◌+◌, ◌<◌, ◌≤◌, true, List, [], ◌∷◌, ◌++◌, Contains, length, refl, ap, ◌∙◌, arith}
use Rattle.std.proofs.lemmas.List.Elements.{All-nil, All-contains}
use Rattle.std.proofs.lemmas.List.Kept.{AllPairs-from_increasing}
use Rattle.std.specs.List.{AllPairs}
use Rattle.spg_opclass.specs.Meaning.{Meaning, is_tuple}
use Rattle.spg_opclass.specs.Laws.{KeptLaw}
use Rattle.spg_opclass.specs.declared.view.InnerView.{InnerView}
use Rattle.spg_forest.specs.Walk.{below}
use Rattle.spg_scan.proofs.CoverNodes.{contains_here, contains_behind, contains_cases, contains_none}

-- k numbers from a on
from : ℕ → ℕ → List ℕ
from a zero = []
from a (suc k) = a ∷ from (suc a) k

from_more : (a k : ℕ) → from a (suc k) ≡ from a k ++ (a + k) ∷ []
unfolding from
from_more a zero = ap (λ n. n ∷ []) (omega arith)
from_more a (suc k) = ap (λ ns. a ∷ ns) (from_more (suc a) k ∙ ap (λ n. from (suc a) k ++ n ∷ []) (omega arith))

from_zero : (n : ℕ) → from 0 n ≡ below n
unfolding from
from_zero zero = refl
from_zero (suc n) = from_more 0 n ∙ ap (λ ns. ns ++ (0 + n) ∷ []) (from_zero n) ∙ ap (λ k. below n ++ k ∷ []) (omega arith)

tail_pairs : (x : ℕ) (xs : List ℕ) → AllPairs (λ a b. a < b) (x ∷ xs) → AllPairs (λ a b. a < b) xs
tail_pairs x xs h = λ k l d g q. h (suc k) (suc l) d (omega arith) (omega arith)

head_least : (x y : ℕ) (xs : List ℕ) → AllPairs (λ a b. a < b) (x ∷ xs) → Contains xs y → x < y
head_least x y xs h (k, g, e) = let l = h 0 (suc k) y (omega arith) (omega arith) in omega arith

-- ascending numbers that are just the k from a on
are_from : (a k : ℕ) (xs : List ℕ) → AllPairs (λ x y. x < y) xs → ((i : ℕ) → Contains xs i → (a ≤ i) × (i < a + k)) → ((i : ℕ) → a ≤ i → i < a + k → Contains xs i) → xs ≡ from a k
unfolding from
are_from a zero [] p into back = refl
are_from a zero (x ∷ xs) p into back = let (l, h) = into x (contains_here x xs) in absurd (omega arith)
are_from a (suc k) [] p into back = absurd (contains_none a (back a (omega arith) (omega arith)))
are_from a (suc k) (x ∷ xs) p into back =
    let (l, h) = into x (contains_here x xs) in
    let e : x ≡ a = ⊎_elim (λ e. e) (λ c. let g = head_least x a xs p c in absurd (omega arith)) (contains_cases x a xs (back a (omega arith) (omega arith))) in
    ap (λ n. n ∷ xs) e ∙ ap (λ ns. a ∷ ns) (are_from (suc a) k xs (tail_pairs x xs p)
    (λ i c. let g = head_least x i xs p c in let (q, r) = into i (contains_behind x i xs c) in (omega arith, omega arith))
    (λ i g r. ⊎_elim (λ f. absurd (omega arith)) (λ c. c) (contains_cases x i xs (back i (omega arith) (omega arith)))))

pub kept_all : {Key Recon Cond : Type 0} (m : Meaning Key Recon Cond) → KeptLaw m → (recon : Recon) (tuple : InnerView) → m.is_recon recon ≡ true → is_tuple m tuple ≡ true → m.kept recon tuple [] ≡ below (length tuple.labels)
kept_all m K recon tuple r t =
    let k = K recon tuple [] r t (All-nil _) in
    are_from 0 (length tuple.labels) (m.kept recon tuple []) (AllPairs-from_increasing (m.kept recon tuple []) k.ordered)
    (λ i c. let h = All-contains (λ n. n < length tuple.labels) (m.kept recon tuple []) i k.there c in (omega arith, omega arith))
    (λ i l h. k.unasked refl i (omega arith))
    ∙ from_zero (length tuple.labels)
