-- Writing items one after another.
use Rattle.std.proofs.Common.{◌≡◌, ◌∙◌, ℕ, zero, suc, ◌+◌, ◌<◌, List, [], ◌∷◌, ◌++◌, map, take, drop, set, get_or, length, refl, sym, ap, subst, not-suc-le-zero, le_of_suc-le-suc, add-one}

put_next : {A B : Type 0} (f : A → B) (xs : List A) (ys : List B) (i : ℕ) (d : A) → i < length xs → i < length ys → set (map f (take i xs) ++ drop i ys) i (f (get_or xs i d)) ≡ map f (take (suc i) xs) ++ drop (suc i) ys
put_next f [] ys i d h k = absurd (not-suc-le-zero h)
put_next f (x ∷ xs) [] i d h k = absurd (not-suc-le-zero k)
put_next f (x ∷ xs) (y ∷ ys) zero d h k = refl
put_next f (x ∷ xs) (y ∷ ys) (suc i) d h k = ap (λ zs. f x ∷ zs) (put_next f xs ys i d (le_of_suc-le-suc h) (le_of_suc-le-suc k))

-- where the first i places have the first i items, the next item comes into the next place
pub filled : {A B : Type 0} (f : A → B) (xs : List A) (ys rows : List B) (i : ℕ) (d : A) (v : B) → rows ≡ map f (take i xs) ++ drop i ys → v ≡ f (get_or xs i d) → i < length xs → i < length ys → set rows i v ≡ map f (take (i + 1) xs) ++ drop (i + 1) ys
filled {A} {B} f xs ys rows i d v is same h k =
    ap (λ (rs : List B). set rs i v) is ∙ ap (λ (w : B). set (map f (take i xs) ++ drop i ys) i w) same ∙ put_next f xs ys i d h k ∙ ap (λ (n : ℕ). map f (take n xs) ++ drop n ys) (sym (add-one i))
