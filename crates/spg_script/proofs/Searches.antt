-- The first byte that is a given one, as a search tells it and as it is counted.
use Rattle.std.proofs.Common.{◌≡◌, ◌<◌, ◌==◌, ℕ, zero, suc, ◌+◌, Bool, true, false, cond, List, [], ◌∷◌, length, Some, None, refl, ap, ◌∙◌, arith, add-one}
use Rattle.std.specs.Prelude.{slice_index}
use Rattle.memchr.specs.Find.{IsFirstByte, is_byte}
use Rattle.spg_script.specs.Reading.{len_before}

-- the count stops at the byte
stops : (stop b : ℕ) (bytes : List ℕ) → (b == stop) ≡ true → len_before stop (b ∷ bytes) ≡ 0
stops stop b bytes e = ap (λ (t : Bool). cond t 0 (len_before stop bytes + 1)) e

-- and goes on at any other
goes_on : (stop b : ℕ) (bytes : List ℕ) → (b == stop) ≡ false → len_before stop (b ∷ bytes) ≡ suc (len_before stop bytes)
goes_on stop b bytes e = ap (λ (t : Bool). cond t 0 (len_before stop bytes + 1)) e ∙ add-one (len_before stop bytes)

other : (b : Bool) → (b ≡ true → ⊥) → b ≡ false
other true not = absurd (not refl)
other false not = refl

counted : (stop : ℕ) (bytes : List ℕ) (k : ℕ) → k < length bytes → ((j : ℕ) → j < k → (slice_index bytes j == stop) ≡ true → ⊥) → (slice_index bytes k == stop) ≡ true → len_before stop bytes ≡ k
counted stop [] k within before here = absurd (omega (arith, within))
counted stop (b ∷ bytes) zero within before here = stops stop b bytes here
counted stop (b ∷ bytes) (suc k) within before here =
    goes_on stop b bytes (other (b == stop) (before 0 (omega arith))) ∙ ap suc (counted stop bytes k (omega (arith, within)) (λ j low is. before (suc j) (omega (arith, low)) is) here)

none_counted : (stop : ℕ) (bytes : List ℕ) → ((j : ℕ) → j < length bytes → (slice_index bytes j == stop) ≡ true → ⊥) → len_before stop bytes ≡ length bytes
none_counted stop [] before = refl
none_counted stop (b ∷ bytes) before =
    goes_on stop b bytes (other (b == stop) (before 0 (omega arith))) ∙ ap suc (none_counted stop bytes (λ j low is. before (suc j) (omega (arith, low)) is))

pub found_at : (stop : ℕ) (bytes : List ℕ) (k : ℕ) → IsFirstByte (is_byte stop) bytes (Some k) → len_before stop bytes ≡ k
found_at stop bytes k found = counted stop bytes k found.0.high (λ j low is. found.0.before j (omega arith) low is) found.1

pub not_found : (stop : ℕ) (bytes : List ℕ) → IsFirstByte (is_byte stop) bytes None → len_before stop bytes ≡ length bytes
not_found stop bytes none = none_counted stop bytes (λ j low is. none j (omega arith) low is)
