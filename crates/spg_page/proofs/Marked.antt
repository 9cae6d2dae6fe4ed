-- Tuples with placeholders at the marked offsets.
use Rattle.std.proofs.Common.{◌≡◌, ℕ, zero, suc, ◌+◌, ◌-◌, ◌<◌, ◌≤◌, Bool, true, false, cond, List, [], ◌∷◌, ◌++◌, length, length-append, get_or, take, drop, map, set, replicate, refl, sym, ap, ◌∙◌, arith}
use Rattle.std.proofs.lemmas.List.{take_more, take_all, drop_more, drop_all, length-take-le, length-drop, append-nil, set-append_right}
use Rattle.spg_page.specs.Marks.{marked_as, blanked}

marked_none : {T : Type 0} → (x : T) (ms : List Bool) → marked_as x ms [] ≡ []
marked_none x [] = refl
marked_none x (m ∷ ms) = refl

marked_more : {T : Type 0} → (x : T) (ms : List Bool) (ts : List T) (t : T) → marked_as x ms (ts ++ t ∷ []) ≡ marked_as x ms ts ++ cond (get_or ms (length ts) false) x t ∷ []
marked_more x [] ts t = refl
marked_more x (m ∷ ms) [] t = ap (λ us. cond m x t ∷ us) (marked_none x ms)
marked_more x (m ∷ ms) (u ∷ us) t = ap (λ vs. cond m x u ∷ vs) (marked_more x ms us t)

-- a list in which nothing stands
pub blanked_none : {T : Type 0} → (x : T) (ms : List Bool) → blanked x ms [] ≡ []
blanked_none x [] = refl
blanked_none x (m ∷ ms) = marked_none x ms

-- one tuple more
pub blanked_more : {T : Type 0} → (x : T) (ms : List Bool) (ts : List T) (t : T) → blanked x ms (ts ++ t ∷ []) ≡ blanked x ms ts ++ cond (get_or ms (suc (length ts)) false) x t ∷ []
blanked_more x [] ts t = refl
blanked_more x (m ∷ ms) ts t = marked_more x ms ts t

-- the tuples up to an index, and then the next one
pub blanked_step : {T : Type 0} → (x : T) (ms : List Bool) (ts : List T) (i : ℕ) (d : T) → i < length ts → blanked x ms (take (i + 1) ts) ≡ blanked x ms (take i ts) ++ cond (get_or ms (i + 1) false) x (get_or ts i d) ∷ []
blanked_step x ms ts i d l =
    let n : suc (length (take i ts)) ≡ i + 1 = omega (arith, length-take-le i ts (omega arith)) in
    ap (blanked x ms) (take_more ts i d l) ∙ blanked_more x ms (take i ts) (get_or ts i d) ∙ ap (λ k. blanked x ms (take i ts) ++ cond (get_or ms k false) x (get_or ts i d) ∷ []) n

-- what callers see
map_marked : {T U : Type 0} → (f : T → U) (x : T) (ms : List Bool) (ts : List T) → map f (marked_as x ms ts) ≡ marked_as (f x) ms (map f ts)
map_marked f x [] ts = refl
map_marked f x (m ∷ ms) [] = refl
map_marked f x (true ∷ ms) (t ∷ ts) = ap (λ us. f x ∷ us) (map_marked f x ms ts)
map_marked f x (false ∷ ms) (t ∷ ts) = ap (λ us. f t ∷ us) (map_marked f x ms ts)

pub map_blanked : {T U : Type 0} → (f : T → U) (x : T) (ms : List Bool) (ts : List T) → map f (blanked x ms ts) ≡ blanked (f x) ms (map f ts)
map_blanked f x [] ts = refl
map_blanked f x (m ∷ ms) ts = map_marked f x ms ts

-- ---- one mark more

unmarked : {T : Type 0} → (x : T) (n : ℕ) (ts : List T) → marked_as x (replicate n false) ts ≡ ts
unmarked x zero ts = refl
unmarked x (suc n) [] = refl
unmarked x (suc n) (t ∷ ts) = ap (λ us. t ∷ us) (unmarked x n ts)

-- where nothing is marked, the list stays
pub blanked_unmarked : {T : Type 0} → (x : T) (n : ℕ) (ts : List T) → blanked x (replicate n false) ts ≡ ts
blanked_unmarked x zero ts = refl
blanked_unmarked x (suc n) ts = unmarked x n ts

length-marked : {T : Type 0} → (x : T) (ms : List Bool) (ts : List T) → length (marked_as x ms ts) ≡ length ts
length-marked x [] ts = refl
length-marked x (m ∷ ms) [] = refl
length-marked x (m ∷ ms) (t ∷ ts) = ap suc (length-marked x ms ts)

pub length-blanked : {T : Type 0} → (x : T) (ms : List Bool) (ts : List T) → length (blanked x ms ts) ≡ length ts
length-blanked x [] ts = refl
length-blanked x (m ∷ ms) ts = length-marked x ms ts

marked_set : {T : Type 0} → (x : T) (ms : List Bool) (ts : List T) (i : ℕ) → i < length ms → i < length ts → marked_as x (set ms i true) ts ≡ set (marked_as x ms ts) i x
marked_set x [] ts i a b = absurd (omega arith)
marked_set x (m ∷ ms) [] i a b = absurd (omega arith)
marked_set x (m ∷ ms) (t ∷ ts) zero a b = refl
marked_set x (m ∷ ms) (t ∷ ts) (suc i) a b = ap (λ us. cond m x t ∷ us) (marked_set x ms ts i (omega arith) (omega arith))

-- an offset is marked
pub blanked_set : {T : Type 0} → (x : T) (ms : List Bool) (ts : List T) (i : ℕ) → suc i < length ms → i < length ts → blanked x (set ms (suc i) true) ts ≡ set (blanked x ms ts) i x
blanked_set x [] ts i a b = absurd (omega arith)
blanked_set x (m ∷ ms) ts i a b = marked_set x ms ts i (omega arith) b

-- ---- the tuples before an index are blanked

abbrev pub blanked_upto : {T : Type 0} → T → List Bool → List T → ℕ → List T
blanked_upto x ms ts i = blanked x ms (take i ts) ++ drop i ts

upto_split : {T : Type 0} → (x : T) (ms : List Bool) (ts : List T) (i : ℕ) (d : T) → i < length ts → blanked_upto x ms ts i ≡ blanked x ms (take i ts) ++ get_or ts i d ∷ drop (i + 1) ts
upto_split x ms ts i d l = ap (λ us. blanked x ms (take i ts) ++ us) (drop_more ts i d l)

upto_more : {T : Type 0} → (x : T) (ms : List Bool) (ts : List T) (i : ℕ) (d : T) → i < length ts → blanked_upto x ms ts (i + 1) ≡ blanked x ms (take i ts) ++ cond (get_or ms (i + 1) false) x (get_or ts i d) ∷ drop (i + 1) ts
upto_more x ms ts i d l =
    ap (λ us. us ++ drop (i + 1) ts) (blanked_step x ms ts i d l) ∙ append_one (blanked x ms (take i ts)) (cond (get_or ms (i + 1) false) x (get_or ts i d)) (drop (i + 1) ts)
  where
    append_one : {T : Type 0} → (xs : List T) (y : T) (zs : List T) → (xs ++ y ∷ []) ++ zs ≡ xs ++ y ∷ zs
    append_one [] y zs = refl
    append_one (x ∷ xs) y zs = ap (λ us. x ∷ us) (append_one xs y zs)

-- the next one is marked, or is not
pub upto_marked : {T : Type 0} → (x : T) (ms : List Bool) (ts : List T) (i : ℕ) (d : T) → i < length ts → get_or ms (i + 1) false ≡ true → set (blanked_upto x ms ts i) i x ≡ blanked_upto x ms ts (i + 1)
upto_marked x ms ts i d l e =
    let len : length (blanked x ms (take i ts)) ≡ i = length-blanked x ms (take i ts) ∙ length-take-le i ts (omega arith) in
    let at : i - i ≡ 0 = omega arith in
    ap (λ us. set us i x) (upto_split x ms ts i d l) ∙ set-append_right (blanked x ms (take i ts)) (get_or ts i d ∷ drop (i + 1) ts) i i x len (omega arith)
    ∙ ap (λ k. blanked x ms (take i ts) ++ set (get_or ts i d ∷ drop (i + 1) ts) k x) at
    ∙ sym (upto_more x ms ts i d l ∙ ap (λ m. blanked x ms (take i ts) ++ cond m x (get_or ts i d) ∷ drop (i + 1) ts) e)

pub upto_kept : {T : Type 0} → (x : T) (ms : List Bool) (ts : List T) (i : ℕ) (d : T) → i < length ts → get_or ms (i + 1) false ≡ false → blanked_upto x ms ts i ≡ blanked_upto x ms ts (i + 1)
upto_kept x ms ts i d l e = upto_split x ms ts i d l ∙ sym (upto_more x ms ts i d l ∙ ap (λ m. blanked x ms (take i ts) ++ cond m x (get_or ts i d) ∷ drop (i + 1) ts) e)

pub upto_none : {T : Type 0} → (x : T) (ms : List Bool) (ts : List T) → blanked_upto x ms ts 0 ≡ ts
upto_none x ms ts = ap (λ us. us ++ ts) (blanked_none x ms)

pub upto_all : {T : Type 0} → (x : T) (ms : List Bool) (ts : List T) (i : ℕ) → length ts ≤ i → blanked_upto x ms ts i ≡ blanked x ms ts
upto_all x ms ts i h = ap (λ us. blanked x ms us ++ drop i ts) (take_all i ts h) ∙ ap (λ us. blanked x ms ts ++ us) (drop_all i ts h) ∙ append-nil (blanked x ms ts)

pub length-upto : {T : Type 0} → (x : T) (ms : List Bool) (ts : List T) (i : ℕ) → i ≤ length ts → length (blanked_upto x ms ts i) ≡ length ts
length-upto x ms ts i h =
    let a : length (blanked x ms (take i ts)) ≡ i = length-blanked x ms (take i ts) ∙ length-take-le i ts h in
    let b : length (drop i ts) ≡ length ts - i = length-drop i ts in
    length-append (blanked x ms (take i ts)) (drop i ts) ∙ (let e : length (blanked x ms (take i ts)) + length (drop i ts) ≡ length ts = omega arith in e)
