-- Numbers and rows are read back from their texts, and texts are divided into their parts.
use Rattle.std.proofs.Common.{◌≡◌, inl, inr, ◌<◌, ◌+◌, ◌-◌, ◌*◌, ◌%◌, ◌^◌, ◌==◌, ℕ, suc, false, cond, List, [], ◌∷◌, ◌++◌, length, refl, ap, ◌∙◌, arith}
use Rattle.std.specs.List.{AllByRecursion}
use Rattle.std.specs.Fmt.{decimal}
use Rattle.std.proofs.lemmas.Fmt.{decimal_by_steps}
use Rattle.std.proofs.lemmas.Bool.Decides.{eqb_tells}
use Rattle.std.proofs.lemmas.List.{append_assoc}
use Rattle.spg_base.specs.Row.{RowAt}
use Rattle.spg_base.specs.Text.{row_text}
use Rattle.spg_script.specs.Spelling.{IsRow}
use Rattle.spg_script.specs.Reading.{len_before}
use Rattle.spg_script.proofs.Digits.{HasNo, HasNo-cons, HasNo-append, HasNo-decimal}
use Rattle.spg_report.specs.Text.{ended}

-- ---- numbers

abbrev pub num_from : ℕ → List ℕ → ℕ
num_from v [] = v
num_from v (b ∷ bytes) = num_from (v * 10 + (b - 48)) bytes

abbrev pub num : List ℕ → ℕ
num bytes = num_from 0 bytes

pub num_from-append : (v : ℕ) (digits : List ℕ) (b : ℕ) → num_from v (digits ++ b ∷ []) ≡ num_from v digits * 10 + (b - 48)
num_from-append v [] b = refl
num_from-append v (d ∷ digits) b = num_from-append (v * 10 + (d - 48)) digits b

pub num-decimal : (n : ℕ) → n < 2 ^ 64 → num (decimal n) ≡ n
num-decimal n small = decimal_by_steps (λ m ds. num_from 0 ds ≡ m) (λ m low. omega arith) (λ m ds high front. num_from-append 0 ds (48 + m % 10) ∙ omega (arith, front)) n small

-- ---- the parts between separators

abbrev pub onto_first : ℕ → List (List ℕ) → List (List ℕ)
onto_first b [] = (b ∷ []) ∷ []
onto_first b (part ∷ parts) = (b ∷ part) ∷ parts

abbrev pub parts_at : ℕ → List ℕ → List (List ℕ)
parts_at stop [] = [] ∷ []
parts_at stop (b ∷ bytes) = cond (b == stop) ([] ∷ parts_at stop bytes) (onto_first b (parts_at stop bytes))

pub parts-front : (stop : ℕ) (front back : List ℕ) → HasNo stop front → parts_at stop (front ++ stop ∷ back) ≡ front ∷ parts_at stop back
parts-front stop [] back apart = elim (eqb_tells stop stop) [
  | inl same ↦ rw same.0 refl
  | inr other ↦ absurd (other.1 refl)
]
parts-front stop (b ∷ front) back apart = elim (eqb_tells b stop) [
  | inl same ↦ let clash : 0 ≡ suc (length front) = rw same.0 at apart in absurd (omega arith)
  | inr other ↦ let rest : len_before stop front + 1 ≡ suc (length front) = rw other.0 at apart in
      rw other.0 (ap (onto_first b) (parts-front stop front back (omega arith)))
]

pub parts-end : (stop : ℕ) (bytes : List ℕ) → HasNo stop bytes → parts_at stop bytes ≡ bytes ∷ []
parts-end stop [] apart = refl
parts-end stop (b ∷ bytes) apart = elim (eqb_tells b stop) [
  | inl same ↦ let clash : 0 ≡ suc (length bytes) = rw same.0 at apart in absurd (omega arith)
  | inr other ↦ let rest : len_before stop bytes + 1 ≡ suc (length bytes) = rw other.0 at apart in
      rw other.0 (ap (onto_first b) (parts-end stop bytes (omega arith)))
]

-- ---- rows

abbrev pub row_of_parts : List (List ℕ) → RowAt
row_of_parts [] = record { block = 0; offset = 0 }
row_of_parts (a ∷ []) = record { block = 0; offset = 0 }
row_of_parts (a ∷ b ∷ more) = record { block = num a; offset = num b }

abbrev pub row_read : List ℕ → RowAt
row_read bytes = row_of_parts (parts_at 46 bytes)

pub row_parts : (row : RowAt) → IsRow row → parts_at 46 (row_text row) ≡ decimal row.block ∷ decimal row.offset ∷ []
row_parts row is =
    parts-front 46 (decimal row.block) (decimal row.offset) (HasNo-decimal 46 row.block (omega arith) (omega (arith, is.block)))
    ∙ ap (λ l. decimal row.block ∷ l) (parts-end 46 (decimal row.offset) (HasNo-decimal 46 row.offset (omega arith) (omega (arith, is.offset))))

pub row_read-text : (row : RowAt) → IsRow row → row_read (row_text row) ≡ row
row_read-text row is =
    let block : num (decimal row.block) ≡ row.block = num-decimal row.block (omega (arith, is.block)) in
    let offset : num (decimal row.offset) ≡ row.offset = num-decimal row.offset (omega (arith, is.offset)) in
    ap row_of_parts (row_parts row is) ∙ ap (λ (b : ℕ). record { block = b; offset = num (decimal row.offset) }) block ∙ ap (λ (o : ℕ). record { block = row.block; offset = o }) offset

pub row_no : (stop : ℕ) (row : RowAt) → stop < 46 → IsRow row → HasNo stop (row_text row)
row_no stop row low is = HasNo-append stop (decimal row.block) (46 ∷ decimal row.offset) (HasNo-decimal stop row.block (omega arith) (omega (arith, is.block)))
    (HasNo-cons stop 46 (decimal row.offset) (no_dot stop low) (HasNo-decimal stop row.offset (omega arith) (omega (arith, is.offset))))
  where
    no_dot : (stop : ℕ) → stop < 46 → (46 == stop) ≡ false
    no_dot stop low = elim (eqb_tells 46 stop) [ inl same ↦ absurd (omega (arith, same.1)) | inr other ↦ other.0 ]

-- ---- lines

pub ended_parts : (lines : List (List ℕ)) → AllByRecursion (HasNo 10) lines → parts_at 10 (ended lines) ≡ lines ++ [] ∷ []
ended_parts [] each = refl
ended_parts (line ∷ lines) each =
    ap (parts_at 10) (append_assoc line (10 ∷ []) (ended lines)) ∙ parts-front 10 line (ended lines) each.0 ∙ ap (λ l. line ∷ l) (ended_parts lines each.1)

pub without_last : (xs ys : List (List ℕ)) (last : List ℕ) → xs ++ last ∷ [] ≡ ys ++ last ∷ [] → length xs ≡ length ys → xs ≡ ys
without_last [] [] last same long = refl
without_last [] (y ∷ ys) last same long = absurd (omega arith)
without_last (x ∷ xs) [] last same long = absurd (omega arith)
without_last (x ∷ xs) (y ∷ ys) last same long =
    let head : x ≡ y = (cc) in
    let tail : xs ++ last ∷ [] ≡ ys ++ last ∷ [] = (cc) in
    ap (λ (h : List ℕ). h ∷ xs) head ∙ ap (λ l. y ∷ l) (without_last xs ys last tail (omega arith))
