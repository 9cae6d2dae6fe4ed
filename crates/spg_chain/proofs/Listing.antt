-- What a page shows once a list of leaves was added to it.
use Rattle.std.proofs.Common.{◌≡◌, ℕ, zero, suc, List, [], ◌∷◌, ◌++◌, append_assoc, append-nil, length, length-append, ◌⊎◌, ⊎_elim, refl, sym, ap, ap₂, ◌∙◌, subst, inl, inr, arith}
use Rattle.std.proofs.lemmas.Bool.{cases_eq}
use Rattle.spg_forest.specs.View.{Leaf}
use Rattle.spg_forest.specs.Spot.{Spot, Bucket, IsIn}
use Rattle.spg_forest.specs.Tuples.{Tuple, Live, Placeholder, IsLaidOut, IsAmong, AreFree, put_on, first_of, with_chain}
use Rattle.spg_forest.specs.Pages.{tuple_on}
use Rattle.spg_forest.specs.Sheets.{free_place}
use Rattle.spg_forest.specs.Edits.{added}
use Rattle.spg_forest.proofs.Chain.{put_on_same, put_on_other}
use Rattle.spg_forest.proofs.Chains.{with_chain_laid_out, with_chain_other}
use Rattle.spg_forest.proofs.ChainWrites.{with_chain_push}
use Rattle.spg_page.proofs.SheetFacts.{free_place_free}
use Rattle.spg_chain.proofs.Laid.{added_alone, added_behind}
use Rattle.spg_chain.specs.Listed.{chained}

-- at each offset of a chain a live leaf tuple stands
live_among : (T : ℕ → Tuple) (os : List ℕ) (ls : List Leaf) (o : ℕ) → AreFree T os ls → IsAmong o os → (l : Leaf) × (n : ℕ) × (with_chain T os ls o ≡ Live l n)
live_among T [] ls o f a = absurd a
live_among T (p ∷ ps) [] o f a = absurd f
live_among T (p ∷ ps) (l ∷ ls) o (x, y, z, f) a = ⊎_elim
    (λ e. (l, first_of ps, put_on_same (with_chain T ps ls) p (Live l (first_of ps)) o e))
    (λ n. let (k, i, q) = live_among T ps ls o f (⊎_elim (λ e. absurd (n e)) (λ b. b) a) in (k, i, put_on_other (with_chain T ps ls) p (Live l (first_of ps)) o n ∙ q)) (cases_eq o p)

not_among : (T : ℕ → Tuple) (os : List ℕ) (ls : List Leaf) (o : ℕ) → AreFree T os ls → with_chain T os ls o ≡ Placeholder → IsAmong o os → ⊥
not_among T os ls o f e a = let (l, n, q) = live_among T os ls o f a in let c : Live l n ≡ Placeholder = sym q ∙ e in cc

among_last : (qs : List ℕ) (p : ℕ) → IsAmong p (qs ++ p ∷ [])
among_last [] p = inl refl
among_last (q ∷ qs) p = inr (among_last qs p)

among_first : (qs : List ℕ) (p o : ℕ) → IsAmong o qs → IsAmong o (qs ++ p ∷ [])
among_first [] p o a = absurd a
among_first (q ∷ qs) p o (inl e) = inl e
among_first (q ∷ qs) p o (inr a) = inr (among_first qs p o a)

among_cases : (qs : List ℕ) (p o : ℕ) → IsAmong o (qs ++ p ∷ []) → IsAmong o qs ⊎ (o ≡ p)
among_cases [] p o a = ⊎_elim (λ e. inr e) (λ b. absurd b) a
among_cases (q ∷ qs) p o a = ⊎_elim (λ e. inl (inl e)) (λ b. ⊎_elim (λ c. inl (inr c)) (λ e. inr e) (among_cases qs p o b)) a

-- the last of a chain
last_of_chain : (T : ℕ → Tuple) (qs : List ℕ) (ks : List Leaf) (p : ℕ) (k : Leaf) → AreFree T (qs ++ p ∷ []) (ks ++ k ∷ []) → (with_chain T (qs ++ p ∷ []) (ks ++ k ∷ []) p ≡ Live k 0) × (p ≡ 0 → ⊥) × (IsAmong p qs → ⊥)
last_of_chain T [] [] p k (x, y, z, f) = (put_on_same T p (Live k 0) p refl, y, λ a. a)
last_of_chain T [] (m ∷ []) p k (x, y, z, f) = absurd f
last_of_chain T [] (m ∷ n ∷ ms) p k (x, y, z, f) = absurd f
last_of_chain T (q ∷ []) [] p k (x, y, z, f) = absurd f
last_of_chain T (q ∷ r ∷ qs) [] p k (x, y, z, f) = absurd f
last_of_chain T (q ∷ qs) (m ∷ ms) p k (x, y, z, f) =
    let (a, b, c) = last_of_chain T qs ms p k f in
    let n : p ≡ q → ⊥ = λ e. z (subst (λ i. IsAmong i (qs ++ p ∷ [])) e (among_last qs p)) in
    (put_on_other (with_chain T (qs ++ p ∷ []) (ms ++ k ∷ [])) q (Live m (first_of (qs ++ p ∷ []))) p n ∙ a, b, λ d. ⊎_elim n c d)

-- a free offset more
free_more : (T : ℕ → Tuple) (qs : List ℕ) (ks : List Leaf) (o : ℕ) (l : Leaf) → AreFree T qs ks → T o ≡ Placeholder → (o ≡ 0 → ⊥) → (IsAmong o qs → ⊥) → AreFree T (qs ++ o ∷ []) (ks ++ l ∷ [])
free_more T [] [] o l f e z n = (e, z, (λ a. a), tt)
free_more T [] (k ∷ ks) o l f e z n = absurd f
free_more T (q ∷ qs) [] o l f e z n = absurd f
free_more T (q ∷ qs) (k ∷ ks) o l (x, y, w, f) e z n =
    (x, y, (λ a. ⊎_elim w (λ c. n (inl (sym c))) (among_cases qs o q a)), free_more T qs ks o l f e z (λ a. n (inr a)))

free_length : (T : ℕ → Tuple) (qs : List ℕ) (ks : List Leaf) → AreFree T qs ks → length qs ≡ length ks
free_length T [] [] f = refl
free_length T [] (k ∷ ks) f = absurd f
free_length T (q ∷ qs) [] f = absurd f
free_length T (q ∷ qs) (k ∷ ks) (x, y, z, f) = ap suc (free_length T qs ks f)

-- the chain of these leaves stands at free offsets
record Written (T : ℕ → Tuple) (us : List Tuple) (ls : List Leaf) (h : ℕ) : Type 0 where
  offsets : List ℕ
  tuples : tuple_on us ≡ with_chain T offsets ls
  free : AreFree T offsets ls
  first : first_of offsets ≡ h

first_same : (qs : List ℕ) (p o : ℕ) → first_of ((qs ++ p ∷ []) ++ o ∷ []) ≡ first_of (qs ++ p ∷ [])
first_same [] p o = refl
first_same (q ∷ qs) p o = refl

grow : (T : ℕ → Tuple) (ts : List Tuple) (qs : List ℕ) (ks : List Leaf) (p : ℕ) (k : Leaf) (rest : List Leaf) → tuple_on ts ≡ with_chain T (qs ++ p ∷ []) (ks ++ k ∷ []) → AreFree T (qs ++ p ∷ []) (ks ++ k ∷ []) →
    Written T (chained ts p rest) ((ks ++ k ∷ []) ++ rest) (first_of (qs ++ p ∷ []))
grow T ts qs ks p k [] e f = record { offsets = qs ++ p ∷ []; tuples = e ∙ ap (with_chain T (qs ++ p ∷ [])) (sym (append-nil (ks ++ k ∷ []))); free = subst (AreFree T (qs ++ p ∷ [])) (sym (append-nil (ks ++ k ∷ []))) f; first = refl }
grow T ts qs ks zero k (l ∷ rest) e f = absurd ((last_of_chain T qs ks zero k f).1 refl)
grow T ts qs ks (suc j) k (l ∷ rest) e f =
    let p : ℕ = suc j in
    let o : ℕ = suc (free_place ts) in
    let us : List Tuple = added ts p o l in
    let (a, b, c) = last_of_chain T qs ks p k f in
    let at : tuple_on ts p ≡ Live k 0 = ap (λ (U : ℕ → Tuple). U p) e ∙ a in
    let free_here : tuple_on ts o ≡ Placeholder = free_place_free ts in
    let none : IsAmong o (qs ++ p ∷ []) → ⊥ = not_among T (qs ++ p ∷ []) (ks ++ k ∷ []) o f (sym (ap (λ (U : ℕ → Tuple). U o) e) ∙ free_here) in
    let was : T o ≡ Placeholder = sym (with_chain_other T (qs ++ p ∷ []) (ks ++ k ∷ []) o none) ∙ sym (ap (λ (U : ℕ → Tuple). U o) e) ∙ free_here in
    let n : p ≡ o → ⊥ = λ q. none (subst (λ i. IsAmong i (qs ++ p ∷ [])) q (among_last qs p)) in
    let len : length qs ≡ length ks = let g = free_length T (qs ++ p ∷ []) (ks ++ k ∷ []) f in let x = length-append qs (p ∷ []) in let y = length-append ks (k ∷ []) in omega arith in
    let push = with_chain_push T qs ks p o k l len n c (λ d. none (among_first qs p o d)) in
    let eu : tuple_on us ≡ with_chain T ((qs ++ p ∷ []) ++ o ∷ []) ((ks ++ k ∷ []) ++ l ∷ []) =
    added_behind ts j k l 0 at ∙ ap (λ (U : ℕ → Tuple). put_on (put_on U p (Live k o)) o (Live l 0)) e ∙ sym push ∙ ap₂ (with_chain T) (sym (append_assoc qs (p ∷ []) (o ∷ []))) (sym (append_assoc ks (k ∷ []) (l ∷ []))) in
    let fu : AreFree T ((qs ++ p ∷ []) ++ o ∷ []) ((ks ++ k ∷ []) ++ l ∷ []) = free_more T (qs ++ p ∷ []) (ks ++ k ∷ []) o l f was (λ z. absurd (omega arith)) none in
    let W = grow T us (qs ++ p ∷ []) (ks ++ k ∷ []) o l rest eu fu in
    subst (λ h. Written T (chained us o rest) ((ks ++ k ∷ []) ++ l ∷ rest) h) (first_same qs p o)
    (subst (λ zs. Written T (chained us o rest) zs (first_of ((qs ++ p ∷ []) ++ o ∷ []))) (append_assoc (ks ++ k ∷ []) (l ∷ []) rest) W)

written : (ts : List Tuple) (l : Leaf) (ls : List Leaf) → Written (tuple_on ts) (chained ts 0 (l ∷ ls)) (l ∷ ls) (suc (free_place ts))
written ts l ls = grow (tuple_on ts) (added ts 0 (suc (free_place ts)) l) [] [] (suc (free_place ts)) l ls (added_alone ts l) (free_place_free ts, (λ z. absurd (omega arith)), (λ a. a), tt)

-- a page with one list more
pub list_laid : (ts : List Tuple) (Z : ℕ → Spot) (l : Leaf) (ls : List Leaf) → IsLaidOut (tuple_on ts) Z → IsLaidOut (tuple_on (chained ts 0 (l ∷ ls))) (put_on Z (suc (free_place ts)) (Bucket (l ∷ ls)))
list_laid ts Z l ls H =
    let W = written ts l ls in
    subst (λ h. IsLaidOut (tuple_on (chained ts 0 (l ∷ ls))) (put_on Z h (Bucket (l ∷ ls)))) W.first
    (subst (λ (U : ℕ → Tuple). IsLaidOut U (put_on Z (first_of W.offsets) (Bucket (l ∷ ls)))) (sym W.tuples) (with_chain_laid_out (tuple_on ts) Z H W.offsets (l ∷ ls) W.free))

-- each tuple of a chain is one of its leaves, and the others stay
chain_tuple : (T : ℕ → Tuple) (os : List ℕ) (ls : List Leaf) (o : ℕ) → (with_chain T os ls o ≡ T o) ⊎ ((l : Leaf) × (n : ℕ) × IsIn l ls × (with_chain T os ls o ≡ Live l n))
chain_tuple T [] ls o = inl refl
chain_tuple T (p ∷ ps) [] o = inl refl
chain_tuple T (p ∷ ps) (l ∷ ls) o = ⊎_elim
    (λ e. inr (l, first_of ps, inl refl, put_on_same (with_chain T ps ls) p (Live l (first_of ps)) o e))
    (λ n. ⊎_elim (λ q. inl (put_on_other (with_chain T ps ls) p (Live l (first_of ps)) o n ∙ q))
    (λ (k, i, a, q). inr (k, i, inr a, put_on_other (with_chain T ps ls) p (Live l (first_of ps)) o n ∙ q)) (chain_tuple T ps ls o)) (cases_eq o p)

pub list_tuple : (ts : List Tuple) (ls : List Leaf) (o : ℕ) → (tuple_on (chained ts 0 ls) o ≡ tuple_on ts o) ⊎ ((l : Leaf) × (n : ℕ) × IsIn l ls × (tuple_on (chained ts 0 ls) o ≡ Live l n))
list_tuple ts [] o = inl refl
list_tuple ts (l ∷ ls) o =
    let W = written ts l ls in
    let e = ap (λ (U : ℕ → Tuple). U o) W.tuples in
    ⊎_elim (λ q. inl (e ∙ q)) (λ (k, n, a, q). inr (k, n, a, e ∙ q)) (chain_tuple (tuple_on ts) W.offsets (l ∷ ls) o)
