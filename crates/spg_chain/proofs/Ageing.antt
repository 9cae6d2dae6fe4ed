-- Redirects aged one after another.
use Rattle.std.proofs.Common.{◌≡◌, ℕ, zero, suc, ◌≤◌, ◌<◌, List, [], ◌∷◌, ◌++◌, map, nat_le, true, false, length, set, get_or, refl, sym, ap, ◌∙◌, subst, arith}
use Rattle.std.proofs.lemmas.Bool.{cond-false, lt-leb, le-leb, cond-true, ltb-true, ltb-false}
use Rattle.spg_forest.specs.Tuples.{Tuple, Inner, Live, Dead, Redirect, Placeholder}
use Rattle.spg_forest.specs.Pages.{tuple_on, with_tuple}
use Rattle.spg_forest.specs.Sheets.{size_of}
use Rattle.spg_chain.specs.Ages.{is_old}
use Rattle.spg_cover.specs.Swept.{aged}

-- the first k tuples aged
abbrev pub aged_front : ℕ → ℕ → List Tuple → List Tuple
aged_front h zero ts = ts
aged_front h (suc k) [] = []
aged_front h (suc k) (t ∷ ts) = aged h t ∷ aged_front h k ts

pub aged_length : (h k : ℕ) (ts : List Tuple) → length (aged_front h k ts) ≡ length ts
aged_length h zero ts = refl
aged_length h (suc k) [] = refl
aged_length h (suc k) (t ∷ ts) = ap (λ n. suc n) (aged_length h k ts)

aged_get : (h k : ℕ) (ts : List Tuple) → get_or (aged_front h k ts) k Placeholder ≡ get_or ts k Placeholder
aged_get h zero ts = refl
aged_get h (suc k) [] = refl
aged_get h (suc k) (t ∷ ts) = aged_get h k ts

pub aged_next : (h k : ℕ) (ts : List Tuple) → tuple_on (aged_front h k ts) (suc k) ≡ tuple_on ts (suc k)
aged_next = aged_get

pub aged_whole : (h k : ℕ) (ts : List Tuple) → length ts ≤ k → aged_front h k ts ≡ map (aged h) ts
aged_whole h zero [] l = refl
aged_whole h zero (t ∷ ts) l = absurd (omega arith)
aged_whole h (suc k) [] l = refl
aged_whole h (suc k) (t ∷ ts) l = ap (λ us. aged h t ∷ us) (aged_whole h k ts (omega arith))

set_front : (h k : ℕ) (ts : List Tuple) → k < length ts → set (aged_front h k ts) k (aged h (get_or ts k Placeholder)) ≡ aged_front h (suc k) ts
set_front h k [] l = absurd (omega arith)
set_front h zero (t ∷ ts) l = refl
set_front h (suc k) (t ∷ ts) l = ap (λ us. aged h t ∷ us) (set_front h k ts (omega arith))

set_none : (ts : List Tuple) (k : ℕ) → k < length ts → set ts k (get_or ts k Placeholder) ≡ ts
set_none [] k l = absurd (omega arith)
set_none (t ∷ ts) zero l = refl
set_none (t ∷ ts) (suc k) l = ap (λ us. t ∷ us) (set_none ts k (omega arith))

-- a tuple that is not aged
pub front_kept : (h k : ℕ) (ts : List Tuple) → k < length ts → aged h (tuple_on ts (suc k)) ≡ tuple_on ts (suc k) → aged_front h (suc k) ts ≡ aged_front h k ts
front_kept h k ts l e = let a = aged_length h k ts in
    sym (set_front h k ts l) ∙ ap (λ t. set (aged_front h k ts) k t) (e ∙ sym (aged_get h k ts)) ∙ set_none (aged_front h k ts) k (omega arith)

-- and one that is
pub front_aged : (h k : ℕ) (ts : List Tuple) → k < length ts → aged h (tuple_on ts (suc k)) ≡ Placeholder → aged_front h (suc k) ts ≡ with_tuple (aged_front h k ts) (suc k) Placeholder
front_aged h k ts l e = let a = aged_length h k ts in
    sym (set_front h k ts l) ∙ ap (λ t. set (aged_front h k ts) k t) e
    ∙ sym (cond-false (nat_le (length (aged_front h k ts)) k) (aged_front h k ts ++ Placeholder ∷ []) (set (aged_front h k ts) k Placeholder) (lt-leb (length (aged_front h k ts)) k (omega arith)))

pub not_aged : (h : ℕ) (t : Tuple) → is_old h t ≡ false → aged h t ≡ t
not_aged h (Redirect y u) e = cond-true (nat_le h u) (Redirect y u) Placeholder (le-leb h u (ltb-false u h e))
not_aged h (Inner w ns) e = refl
not_aged h (Live l i) e = refl
not_aged h Dead e = refl
not_aged h Placeholder e = refl

pub are_aged : (h : ℕ) (t : Tuple) → is_old h t ≡ true → (aged h t ≡ Placeholder) × (size_of t ≡ 16)
are_aged h (Redirect y u) e = (cond-false (nat_le h u) (Redirect y u) Placeholder (lt-leb h u (ltb-true u h e)), refl)
are_aged h (Inner w ns) e = cc
are_aged h (Live l i) e = cc
are_aged h Dead e = cc
are_aged h Placeholder e = cc

step_here : (h k : ℕ) (ts : List Tuple) → k < length ts → (is_old h (tuple_on (aged_front h k ts) (suc k)) ≡ false → aged_front h k ts ≡ aged_front h (suc k) ts) × (is_old h (tuple_on (aged_front h k ts) (suc k)) ≡ true → with_tuple (aged_front h k ts) (suc k) Placeholder ≡ aged_front h (suc k) ts)
step_here h k ts l = (
  (λ e. sym (front_kept h k ts l (not_aged h (tuple_on ts (suc k)) (ap (is_old h) (sym (aged_next h k ts)) ∙ e)))),
  (λ e. sym (front_aged h k ts l (are_aged h (tuple_on ts (suc k)) (ap (is_old h) (sym (aged_next h k ts)) ∙ e)).0)),
)

-- one step of the loop, from k tuples to j
pub aged_step : (h k j : ℕ) (ts us : List Tuple) → j ≡ suc k → us ≡ aged_front h k ts → k < length ts → (is_old h (tuple_on us j) ≡ false → us ≡ aged_front h j ts) × (is_old h (tuple_on us j) ≡ true → with_tuple us j Placeholder ≡ aged_front h j ts)
aged_step h k j ts us e f l = subst (λ vs. (is_old h (tuple_on vs j) ≡ false → vs ≡ aged_front h j ts) × (is_old h (tuple_on vs j) ≡ true → with_tuple vs j Placeholder ≡ aged_front h j ts)) (sym f)
    (subst (λ i. (is_old h (tuple_on (aged_front h k ts) i) ≡ false → aged_front h k ts ≡ aged_front h i ts) × (is_old h (tuple_on (aged_front h k ts) i) ≡ true → with_tuple (aged_front h k ts) i Placeholder ≡ aged_front h i ts)) (sym e) (step_here h k ts l))
