-- Whether ageing changes a page.
use Rattle.std.proofs.Common.{◌≡◌, ℕ, zero, suc, ◌≤◌, ◌<◌, List, [], ◌∷◌, map, true, false, length, get_or, refl, sym, ap, ap₂, ◌∙◌, ⊎_elim, arith}
use Rattle.std.proofs.lemmas.Bool.{cases_lt}
use Rattle.spg_forest.specs.Tuples.{Tuple, Inner, Live, Dead, Redirect, Placeholder}
use Rattle.spg_forest.specs.Pages.{tuple_on}
use Rattle.spg_page.specs.Changes.{in_front, trimmed}
use Rattle.spg_cover.specs.Swept.{aged}
use Rattle.spg_page.proofs.SheetFacts.{trimmed_on}
use Rattle.spg_cover.proofs.Aged.{aged_on}
use Rattle.spg_chain.specs.Ages.{is_old, is_placeholder}
use Rattle.spg_chain.proofs.Ageing.{not_aged, are_aged}

-- an old redirect is gone then
pub old_changes : (h : ℕ) (ts : List Tuple) (k : ℕ) → is_old h (tuple_on ts (suc k)) ≡ true → trimmed (map (aged h) ts) ≡ ts → ⊥
old_changes h ts k e q =
    let t : Tuple = get_or ts k Placeholder in
    let a : get_or ts k Placeholder ≡ Placeholder = ap (λ (us : List Tuple). get_or us k Placeholder) (sym q) ∙ trimmed_on (map (aged h) ts) (suc k) ∙ aged_on h ts (suc k) ∙ (are_aged h t e).0 in
    let b : is_old h Placeholder ≡ true = ap (is_old h) (sym a) ∙ e in cc

pub is_old_next : (h : ℕ) (ts : List Tuple) (k j : ℕ) → j ≡ suc k → is_old h (tuple_on ts j) ≡ true → is_old h (tuple_on ts (suc k)) ≡ true
is_old_next h ts k j e o = ap (λ x. is_old h (tuple_on ts x)) (sym e) ∙ o

-- no placeholder stands at the end
trimmed_end : (us : List Tuple) (k : ℕ) → length (trimmed us) ≡ suc k → get_or (trimmed us) k Placeholder ≡ Placeholder → ⊥
trimmed_end [] k n e = absurd (omega arith)
trimmed_end (t ∷ us) k n e = by t (trimmed us) k (λ i. trimmed_end us i) n e
  where
    by : (t : Tuple) (vs : List Tuple) (k : ℕ) → ((i : ℕ) → length vs ≡ suc i → get_or vs i Placeholder ≡ Placeholder → ⊥) → length (in_front t vs) ≡ suc k → get_or (in_front t vs) k Placeholder ≡ Placeholder → ⊥
    by t (v ∷ vs) zero h n e = absurd (omega arith)
    by t (v ∷ vs) (suc i) h n e = h i (omega arith) e
    by (Inner w ns) [] zero h n e = cc
    by (Inner w ns) [] (suc i) h n e = absurd (omega arith)
    by (Live l m) [] zero h n e = cc
    by (Live l m) [] (suc i) h n e = absurd (omega arith)
    by Dead [] zero h n e = cc
    by Dead [] (suc i) h n e = absurd (omega arith)
    by (Redirect y u) [] zero h n e = cc
    by (Redirect y u) [] (suc i) h n e = absurd (omega arith)
    by Placeholder [] k h n e = absurd (omega arith)

gap_is : (t : Tuple) → is_placeholder t ≡ true → t ≡ Placeholder
gap_is Placeholder e = refl
gap_is (Inner w ns) e = cc
gap_is (Live l n) e = cc
gap_is Dead e = cc
gap_is (Redirect y u) e = cc

pub end_changes : (h : ℕ) (ts : List Tuple) (n : ℕ) → 0 < n → n ≡ length ts → is_placeholder (tuple_on ts n) ≡ true → trimmed (map (aged h) ts) ≡ ts → ⊥
end_changes h ts zero p n e q = absurd (omega arith)
end_changes h ts (suc k) p n e q = trimmed_end (map (aged h) ts) k (ap length q ∙ sym n) (ap (λ (us : List Tuple). get_or us k Placeholder) q ∙ gap_is (get_or ts k Placeholder) e)

-- else nothing changes
pub NoneOld : ℕ → List Tuple → ℕ → Type 0
NoneOld h ts k = (i : ℕ) → i < k → is_old h (tuple_on ts (suc i)) ≡ false

pub none_old : (h : ℕ) (ts : List Tuple) → NoneOld h ts 0
unfolding NoneOld
none_old h ts i l = absurd (omega arith)

pub none_more : (h : ℕ) (ts : List Tuple) (k j : ℕ) → j ≡ suc k → NoneOld h ts k → is_old h (tuple_on ts j) ≡ false → NoneOld h ts j
unfolding NoneOld
none_more h ts k j q n e i l = ⊎_elim (λ a. n i a) (λ a. let b : j ≡ suc i = omega arith in ap (λ x. is_old h (tuple_on ts x)) (sym b) ∙ e) (cases_lt i k)

same_aged : (h : ℕ) (ts : List Tuple) → ((i : ℕ) → i < length ts → is_old h (get_or ts i Placeholder) ≡ false) → map (aged h) ts ≡ ts
same_aged h [] n = refl
same_aged h (t ∷ ts) n = ap₂ (λ x xs. x ∷ xs) (not_aged h t (n 0 (omega arith))) (same_aged h ts (λ i l. n (suc i) (omega arith)))

same_trimmed : (ts : List Tuple) → ((k : ℕ) → length ts ≡ suc k → get_or ts k Placeholder ≡ Placeholder → ⊥) → trimmed ts ≡ ts
same_trimmed [] n = refl
same_trimmed (t ∷ u ∷ us) n = ap (in_front t) (same_trimmed (u ∷ us) (λ k l e. n (suc k) (omega arith) e))
same_trimmed (Inner w ns ∷ []) n = refl
same_trimmed (Live l m ∷ []) n = refl
same_trimmed (Dead ∷ []) n = refl
same_trimmed (Redirect y u ∷ []) n = refl
same_trimmed (Placeholder ∷ []) n = absurd (n 0 refl refl)

pub nothing_changes : (h : ℕ) (ts : List Tuple) (k n : ℕ) → length ts ≤ k → n ≡ length ts → NoneOld h ts k → is_placeholder (tuple_on ts n) ≡ false → trimmed (map (aged h) ts) ≡ ts
unfolding NoneOld
nothing_changes h ts k n l q o e =
    let a : map (aged h) ts ≡ ts = same_aged h ts (λ i j. o i (omega arith)) in
    ap trimmed a ∙ same_trimmed ts (λ i j f. let d : is_placeholder (tuple_on ts n) ≡ true = ap (λ x. is_placeholder (tuple_on ts x)) (q ∙ j) ∙ ap is_placeholder f in let g = sym e ∙ d in cc)
