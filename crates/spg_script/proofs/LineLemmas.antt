-- The lines of a script, one after another.
use Rattle.std.proofs.Common.{◌≡◌, ◌+◌, inl, inr, ℕ, List, [], ◌∷◌, take, drop, refl, ap, ◌∙◌, add-one}
use Rattle.std.proofs.lemmas.Bool.Decides.{eqb_tells}
use Rattle.spg_script.specs.Script.{onto_first, lines_of}
use Rattle.spg_script.specs.Reading.{len_before}

onto : (b n : ℕ) (xs : List ℕ) (lines : List (List ℕ)) → lines ≡ take n xs ∷ lines_of (drop (n + 1) xs) → onto_first b lines ≡ take (n + 1) (b ∷ xs) ∷ lines_of (drop (n + 1 + 1) (b ∷ xs))
onto b n xs lines is = ap (onto_first b) is ∙ shift
  where
    shift : (b ∷ take n xs) ∷ lines_of (drop (n + 1) xs) ≡ take (n + 1) (b ∷ xs) ∷ lines_of (drop (n + 1 + 1) (b ∷ xs))
    shift = rw (add-one (n + 1), add-one n) refl

-- the first line is what stands before the first LF
pub lines_of-first : (b : ℕ) (bytes : List ℕ) → lines_of (b ∷ bytes) ≡ take (len_before 10 (b ∷ bytes)) (b ∷ bytes) ∷ lines_of (drop (len_before 10 (b ∷ bytes) + 1) (b ∷ bytes))
lines_of-first b [] = elim (eqb_tells b 10) [ inl same ↦ rw same.0 refl | inr other ↦ rw other.0 refl ]
lines_of-first b (d ∷ bytes) = elim (eqb_tells b 10) [
  | inl same ↦ rw same.0 refl
  | inr other ↦ rw other.0 (onto b (len_before 10 (d ∷ bytes)) (d ∷ bytes) (lines_of (d ∷ bytes)) (lines_of-first d bytes))
]
