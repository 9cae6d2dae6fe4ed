-- A text that is compared in two parts.
use Rattle.std.proofs.Common.{◌≡◌, ℕ, suc, ◌<◌, ◌≤◌, Bool, true, false, ◌&&◌, List, [], ◌∷◌, ◌++◌, length, take, drop, refl, sym, ◌∙◌, ap, arith, eqb}
use Rattle.std.specs.Str.{bytes_eq}

and-true : (a : Bool) → (a && true) ≡ a
and-true true = refl
and-true false = refl

and-swap : (a b c : Bool) → (a && (b && c)) ≡ (b && (a && c))
and-swap true b c = refl
and-swap false true c = refl
and-swap false false c = refl

pub joined : (front back text : List ℕ) → length front ≤ length text → (bytes_eq back (drop (length front) text) && bytes_eq front (take (length front) text)) ≡ bytes_eq (front ++ back) text
joined [] back text le = and-true (bytes_eq back text)
joined (x ∷ front) back [] le = absurd (omega (arith, le))
joined (x ∷ front) back (y ∷ text) le =
    and-swap (bytes_eq back (drop (length front) text)) (eqb x y) (bytes_eq front (take (length front) text))
    ∙ ap (λ (b : Bool). eqb x y && b) (joined front back text (omega (arith, le)))

pub too_short : (front back text : List ℕ) → length text < length front → false ≡ bytes_eq (front ++ back) text
too_short [] back text lt = absurd (omega (arith, lt))
too_short (x ∷ front) back [] lt = refl
too_short (x ∷ front) back (y ∷ text) lt = sym (and-false (eqb x y) (bytes_eq (front ++ back) text) (too_short front back text (omega (arith, lt))))
  where
    and-false : (a b : Bool) → false ≡ b → (a && b) ≡ false
    and-false true b e = sym e
    and-false false b e = refl
