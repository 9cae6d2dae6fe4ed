-- The value of digits is told at their end, where they are few.
use Rattle.std.proofs.Common.{◌≡◌, ◌<◌, ◌≤◌, ◌+◌, ◌-◌, ◌*◌, ◌^◌, inl, inr, ℕ, Bool, true, false, List, [], ◌∷◌, length, Option, Some, None, refl, sym, arith, cond, ltb, ◌||◌}
use Rattle.std.proofs.lemmas.Bool.{le-ltb, lt-ltb, cases_lt}
use Rattle.std.proofs.lemmas.Fmt.{length-decimal-le}
use Rattle.spg_script.specs.Reading.{value_from, number_of}
use Rattle.spg_script.proofs.Digits.{spelled-number_of}

-- the number that the digits go on to spell, however great
abbrev pub spelled_from : ℕ → List ℕ → Option ℕ
spelled_from value [] = Some value
spelled_from value (b ∷ bytes) = cond (ltb b 48 || ltb 57 b) None (spelled_from (value * 10 + (b - 48)) bytes)

abbrev pub if_small : Option ℕ → Option ℕ
if_small None = None
if_small (Some n) = cond (ltb n (2 ^ 32)) (Some n) None

great : (value : ℕ) (bytes : List ℕ) → 2 ^ 32 ≤ value → if_small (spelled_from value bytes) ≡ None
great value [] over = rw (le-ltb value (2 ^ 32) over) refl
great value (b ∷ bytes) over = go (ltb b 48 || ltb 57 b) (great (value * 10 + (b - 48)) bytes (omega (arith, over)))
  where
    go : (t : Bool) → if_small (spelled_from (value * 10 + (b - 48)) bytes) ≡ None → if_small (cond t None (spelled_from (value * 10 + (b - 48)) bytes)) ≡ None
    go true later = refl
    go false later = later

pub value_from-small : (value : ℕ) (bytes : List ℕ) → value < 2 ^ 32 → value_from (2 ^ 32) value bytes ≡ if_small (spelled_from value bytes)
value_from-small value [] small = rw (lt-ltb value (2 ^ 32) small) refl
value_from-small value (b ∷ bytes) small = go (ltb b 48 || ltb 57 b) (value * 10 + (b - 48)) (value_from-small (value * 10 + (b - 48)) bytes)
  where
    go : (t : Bool) (next : ℕ) → (next < 2 ^ 32 → value_from (2 ^ 32) next bytes ≡ if_small (spelled_from next bytes))
        → cond t None (cond (ltb next (2 ^ 32)) (value_from (2 ^ 32) next bytes) None) ≡ if_small (cond t None (spelled_from next bytes))
    go true next later = refl
    go false next later = elim (cases_lt next (2 ^ 32)) [
      | inl low ↦ rw (lt-ltb next (2 ^ 32) low) (later low)
      | inr over ↦ rw (le-ltb next (2 ^ 32) over) (sym (great next bytes over))
    ]

-- no number below 2 ^ 32 has more than ten digits
pub too_long : (bytes : List ℕ) → 10 < length bytes → number_of bytes ≡ None
too_long bytes long = go (number_of bytes) refl
  where
    go : (o : Option ℕ) → number_of bytes ≡ o → o ≡ None
    go None is = refl
    go (Some n) is =
        let number = spelled-number_of bytes n is in
        let few : length bytes ≤ 10 = rw number.0 (length-decimal-le 10 n (omega arith) (omega (arith, number.1)) (omega (arith, number.1))) in
        absurd (omega (arith, few, long))
