-- The nearest rows are read back from their texts.
use Rattle.std.proofs.Common.{◌≡◌, inl, inr, ◌<◌, ◌+◌, ◌%◌, ◌^◌, ◌==◌, ℕ, false, List, [], ◌∷◌, ◌++◌, refl, ap, ◌∙◌, arith, append-nil}
use Rattle.std.specs.List.{AllByRecursion}
use Rattle.std.specs.Prelude.{map}
use Rattle.std.specs.Fmt.{decimal}
use Rattle.std.proofs.lemmas.Fmt.{decimal_by_steps_wide}
use Rattle.std.proofs.lemmas.Bool.Decides.{eqb_tells}
use Rattle.spg_base.specs.Row.{RowAt}
use Rattle.spg_base.specs.Text.{row_text}
use Rattle.spg_script.specs.Spelling.{IsRow}
use Rattle.spg_script.proofs.Digits.{HasNo, HasNo-cons, HasNo-append}
use Rattle.spg_near.specs.declared.near_row.NearRow.{NearRow}
use Rattle.spg_report.specs.Text.{near_row_text, near_rows_text}
use Rattle.spg_report.specs.Told.{FitsNearRow}
use Rattle.spg_report.proofs.Parts.{num, num_from, num_from-append, parts_at, parts-front, parts-end, row_read, row_read-text, row_no}

-- ---- a distance

num-distance : (n : ℕ) → n < 2 ^ 128 → num (decimal n) ≡ n
num-distance n small = decimal_by_steps_wide (λ m ds. num_from 0 ds ≡ m) (λ m low. omega arith) (λ m ds high front. num_from-append 0 ds (48 + m % 10) ∙ omega (arith, front)) n (omega (arith, small))

-- no digit is this byte
abbrev pub IsNoDigit : ℕ → Type 0
IsNoDigit stop = (d : ℕ) → d < 10 → (48 + d == stop) ≡ false

pub distance_no : (stop n : ℕ) → IsNoDigit stop → n < 2 ^ 128 → HasNo stop (decimal n)
distance_no stop n apart small = decimal_by_steps_wide (λ m ds. HasNo stop ds) (λ m low. HasNo-cons stop (48 + m) [] (apart m low) refl)
    (λ m ds high front. HasNo-append stop ds ((48 + m % 10) ∷ []) front (HasNo-cons stop (48 + m % 10) [] (apart (m % 10) (omega arith)) refl)) n (omega (arith, small))

pub below_digits : (stop : ℕ) → stop < 48 → IsNoDigit stop
below_digits stop low d fits = elim (eqb_tells (48 + d) stop) [ inl same ↦ absurd (omega (arith, same.1)) | inr other ↦ other.0 ]

pub above_digits : (stop : ℕ) → 57 < stop → IsNoDigit stop
above_digits stop high d fits = elim (eqb_tells (48 + d) stop) [ inl same ↦ absurd (omega (arith, same.1)) | inr other ↦ other.0 ]

-- ---- a row with its distance

row_no_colon : (row : RowAt) → IsRow row → HasNo 58 (row_text row)
row_no_colon row is = HasNo-append 58 (decimal row.block) (46 ∷ decimal row.offset) (distance_no 58 row.block (above_digits 58 (omega arith)) (omega (arith, is.block)))
    (HasNo-cons 58 46 (decimal row.offset) refl (distance_no 58 row.offset (above_digits 58 (omega arith)) (omega (arith, is.offset))))

abbrev near_row_of : List (List ℕ) → NearRow
near_row_of [] = record { distance = 0; row = row_read [] }
near_row_of (row ∷ []) = record { distance = 0; row = row_read row }
near_row_of (row ∷ distance ∷ more) = record { distance = num distance; row = row_read row }

abbrev pub near_row_read : List ℕ → NearRow
near_row_read bytes = near_row_of (parts_at 58 bytes)

near_row_read-text : (h : NearRow) → FitsNearRow h → near_row_read (near_row_text h) ≡ h
near_row_read-text h fits =
    let parts : parts_at 58 (near_row_text h) ≡ row_text h.row ∷ decimal h.distance ∷ [] =
    parts-front 58 (row_text h.row) (decimal h.distance) (row_no_colon h.row fits.0) ∙ ap (λ l. row_text h.row ∷ l) (parts-end 58 (decimal h.distance) (distance_no 58 h.distance (above_digits 58 (omega arith)) fits.1)) in
    ap near_row_of parts ∙ ap (λ (r : RowAt). record { distance = num (decimal h.distance); row = r }) (row_read-text h.row fits.0) ∙ ap (λ (d : ℕ). record { distance = d; row = h.row }) (num-distance h.distance fits.1)

near_row_no : (stop : ℕ) (h : NearRow) → stop < 46 → FitsNearRow h → HasNo stop (near_row_text h)
near_row_no stop h low fits = HasNo-append stop (row_text h.row) (58 ∷ decimal h.distance) (row_no stop h.row low fits.0)
    (HasNo-cons stop 58 (decimal h.distance) (no_colon stop low) (distance_no stop h.distance (below_digits stop (omega (arith, low))) fits.1))
  where
    no_colon : (stop : ℕ) → stop < 46 → (58 == stop) ≡ false
    no_colon stop low = elim (eqb_tells 58 stop) [ inl same ↦ absurd (omega (arith, same.1)) | inr other ↦ other.0 ]

-- ---- many of them

-- their words behind a word
pub near_rows_parts : (word : List ℕ) (rows : List NearRow) → HasNo 32 word → AllByRecursion FitsNearRow rows → parts_at 32 (word ++ near_rows_text rows) ≡ word ∷ map near_row_text rows
near_rows_parts word [] apart each = ap (parts_at 32) (append-nil word) ∙ parts-end 32 word apart
near_rows_parts word (h ∷ rows) apart each = parts-front 32 word (near_row_text h ++ near_rows_text rows) apart ∙ ap (λ l. word ∷ l) (near_rows_parts (near_row_text h) rows (near_row_no 32 h (omega arith) each.0) each.1)

pub near_rows_read : (rows : List NearRow) → AllByRecursion FitsNearRow rows → map near_row_read (map near_row_text rows) ≡ rows
near_rows_read [] each = refl
near_rows_read (h ∷ rows) each = ap (λ (x : NearRow). x ∷ map near_row_read (map near_row_text rows)) (near_row_read-text h each.0) ∙ ap (λ l. h ∷ l) (near_rows_read rows each.1)

pub near_rows_no_lf : (rows : List NearRow) → AllByRecursion FitsNearRow rows → HasNo 10 (near_rows_text rows)
near_rows_no_lf [] each = refl
near_rows_no_lf (h ∷ rows) each = HasNo-cons 10 32 (near_row_text h ++ near_rows_text rows) refl (HasNo-append 10 (near_row_text h) (near_rows_text rows) (near_row_no 10 h (omega arith) each.0) (near_rows_no_lf rows each.1))
