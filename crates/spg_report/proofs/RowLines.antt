-- Rows are read back from their texts, with their numbers and without.
use Rattle.std.proofs.Common.{◌≡◌, inl, inr, ◌<◌, ◌≤◌, ◌+◌, ◌/◌, ◌%◌, ◌==◌, ℕ, zero, suc, Bool, true, false, List, [], ◌∷◌, ◌++◌, length, drop, get_or, Option, Some, None, refl, sym, ap, ◌∙◌, arith, append-nil}
use Rattle.std.specs.List.{AllByRecursion}
use Rattle.std.specs.Prelude.{map, codes, bytes_eq}
use Rattle.std.specs.Fmt.{decimal, digits, digits_onto, digit_glyph}
use Rattle.std.proofs.lemmas.Bool.{cases_Bool, lt-ltb}
use Rattle.std.proofs.lemmas.Bool.Decides.{eqb_tells}
use Rattle.std.proofs.lemmas.List.{append_assoc, at_drop_more, drop_all}
use Rattle.std.proofs.lemmas.Slice.Eq.{bytes_eq-Decides}
use Rattle.spg_base.specs.Row.{RowAt}
use Rattle.spg_base.specs.Text.{row_text}
use Rattle.spg_script.specs.Spelling.{IsRow}
use Rattle.spg_script.proofs.Digits.{HasNo, HasNo-cons, HasNo-append}
use Rattle.spg_report.specs.Text.{valued_row_text, value_on, plain_rows_text, rows_text}
use Rattle.spg_report.proofs.NearLines.{IsNoDigit, below_digits, above_digits}
use Rattle.spg_report.proofs.Parts.{parts_at, parts-front, parts-end, row_read, row_parts, row_read-text, row_no}

-- ---- a number of any size is digits

glyph_no : (stop d : ℕ) → IsNoDigit stop → d < 10 → (digit_glyph false d == stop) ≡ false
glyph_no stop d apart low = rw (lt-ltb d 10 low) (apart d low)

digits_no : (stop : ℕ) → IsNoDigit stop → (k n : ℕ) (acc : List ℕ) → HasNo stop acc → HasNo stop (digits_onto k 10 false n acc)
digits_no stop apart zero n acc rest = rest
digits_no stop apart (suc k) n acc rest =
    let more : HasNo stop (digit_glyph false (n % 10) ∷ acc) = HasNo-cons stop (digit_glyph false (n % 10)) acc (glyph_no stop (n % 10) apart (omega arith)) rest in
    elim (cases_Bool (n / 10 == 0)) [
      | inl last ↦ rw last more
      | inr other ↦ rw other (digits_no stop apart k (n / 10) (digit_glyph false (n % 10) ∷ acc) more)
    ]

decimal_no : (stop n : ℕ) → IsNoDigit stop → HasNo stop (decimal n)
unfolding digits
decimal_no stop n apart = digits_no stop apart 64 n [] refl

-- ---- a row with its number

row_no_equals : (row : RowAt) → IsRow row → HasNo 61 (row_text row)
row_no_equals row is = HasNo-append 61 (decimal row.block) (46 ∷ decimal row.offset) (decimal_no 61 row.block (above_digits 61 (omega arith)))
    (HasNo-cons 61 46 (decimal row.offset) refl (decimal_no 61 row.offset (above_digits 61 (omega arith))))

valued_parts : (row : RowAt) (n : ℕ) → IsRow row → parts_at 61 (row_text row ++ 61 ∷ decimal n) ≡ row_text row ∷ decimal n ∷ []
valued_parts row n is = parts-front 61 (row_text row) (decimal n) (row_no_equals row is) ∙ ap (λ l. row_text row ∷ l) (parts-end 61 (decimal n) (decimal_no 61 n (above_digits 61 (omega arith))))

abbrev first_part : List (List ℕ) → List ℕ
first_part [] = []
first_part (part ∷ parts) = part

abbrev pub valued_row_read : List ℕ → RowAt
valued_row_read bytes = row_read (first_part (parts_at 61 bytes))

valued_row_read-text : (row : RowAt) (v : Option ℕ) → IsRow row → valued_row_read (valued_row_text row v) ≡ row
valued_row_read-text row None is = ap (λ l. row_read (first_part l)) (parts-end 61 (row_text row) (row_no_equals row is)) ∙ row_read-text row is
valued_row_read-text row (Some n) is = ap (λ l. row_read (first_part l)) (valued_parts row n is) ∙ row_read-text row is

no_equals : (stop : ℕ) → stop < 46 → (61 == stop) ≡ false
no_equals stop low = elim (eqb_tells 61 stop) [ inl same ↦ absurd (omega (arith, same.1)) | inr other ↦ other.0 ]

valued_row_no : (stop : ℕ) (row : RowAt) (v : Option ℕ) → stop < 46 → IsRow row → HasNo stop (valued_row_text row v)
valued_row_no stop row None low is = row_no stop row low is
valued_row_no stop row (Some n) low is =
    HasNo-append stop (row_text row) (61 ∷ decimal n) (row_no stop row low is) (HasNo-cons stop 61 (decimal n) (no_equals stop low) (decimal_no stop n (below_digits stop (omega (arith, low)))))

not_true : (b : Bool) → (b ≡ true → ⊥) → b ≡ false
not_true true other = absurd (other refl)
not_true false other = refl

-- a row is no word
pub row_no_walk : (row : RowAt) (v : Option ℕ) → IsRow row → bytes_eq (valued_row_text row v) (codes "walk") ≡ false
row_no_walk row None is = not_true (bytes_eq (row_text row) (codes "walk")) (λ same.
    let clash : (decimal row.block ∷ decimal row.offset ∷ []) ≡ codes "walk" ∷ [] = sym (row_parts row is) ∙ ap (parts_at 46) ((bytes_eq-Decides (row_text row) (codes "walk")).0 same) in
    (cc))
row_no_walk row (Some n) is = not_true (bytes_eq (row_text row ++ 61 ∷ decimal n) (codes "walk")) (λ same.
    let clash : (row_text row ∷ decimal n ∷ []) ≡ codes "walk" ∷ [] = sym (valued_parts row n is) ∙ ap (parts_at 61) ((bytes_eq-Decides (row_text row ++ 61 ∷ decimal n) (codes "walk")).0 same) in
    (cc))

-- ---- many of them

-- their words
abbrev pub rows_words : List RowAt → List (Option ℕ) → List (List ℕ)
rows_words rows [] = map row_text rows
rows_words [] (v ∷ values) = []
rows_words (r ∷ rows) (v ∷ values) = valued_row_text r v ∷ rows_words rows values

plain_parts : (word : List ℕ) (rows : List RowAt) → HasNo 32 word → AllByRecursion IsRow rows → parts_at 32 (word ++ plain_rows_text rows) ≡ word ∷ map row_text rows
plain_parts word [] apart each = ap (parts_at 32) (append-nil word) ∙ parts-end 32 word apart
plain_parts word (r ∷ rows) apart each = parts-front 32 word (row_text r ++ plain_rows_text rows) apart ∙ ap (λ l. word ∷ l) (plain_parts (row_text r) rows (row_no 32 r (omega arith) each.0) each.1)

-- they stand behind a word
pub rows_parts : (word : List ℕ) (rows : List RowAt) (values : List (Option ℕ)) → HasNo 32 word → AllByRecursion IsRow rows → parts_at 32 (word ++ rows_text rows values) ≡ word ∷ rows_words rows values
rows_parts word rows [] apart each = plain_parts word rows apart each
rows_parts word [] (v ∷ values) apart each = ap (parts_at 32) (append-nil word) ∙ parts-end 32 word apart
rows_parts word (r ∷ rows) (v ∷ values) apart each =
    parts-front 32 word (valued_row_text r v ++ rows_text rows values) apart ∙ ap (λ l. word ∷ l) (rows_parts (valued_row_text r v) rows values (valued_row_no 32 r v (omega arith) each.0) each.1)

plain_read : (rows : List RowAt) → AllByRecursion IsRow rows → map valued_row_read (map row_text rows) ≡ rows
plain_read [] each = refl
plain_read (r ∷ rows) each = ap (λ (x : RowAt). x ∷ map valued_row_read (map row_text rows)) (valued_row_read-text r None each.0) ∙ ap (λ l. r ∷ l) (plain_read rows each.1)

pub rows_read : (rows : List RowAt) (values : List (Option ℕ)) → AllByRecursion IsRow rows → map valued_row_read (rows_words rows values) ≡ rows
rows_read rows [] each = plain_read rows each
rows_read [] (v ∷ values) each = refl
rows_read (r ∷ rows) (v ∷ values) each = ap (λ (x : RowAt). x ∷ map valued_row_read (rows_words rows values)) (valued_row_read-text r v each.0) ∙ ap (λ l. r ∷ l) (rows_read rows values each.1)

plain_no_lf : (rows : List RowAt) → AllByRecursion IsRow rows → HasNo 10 (plain_rows_text rows)
plain_no_lf [] each = refl
plain_no_lf (r ∷ rows) each = HasNo-cons 10 32 (row_text r ++ plain_rows_text rows) refl (HasNo-append 10 (row_text r) (plain_rows_text rows) (row_no 10 r (omega arith) each.0) (plain_no_lf rows each.1))

pub rows_no_lf : (rows : List RowAt) (values : List (Option ℕ)) → AllByRecursion IsRow rows → HasNo 10 (rows_text rows values)
rows_no_lf rows [] each = plain_no_lf rows each
rows_no_lf [] (v ∷ values) each = refl
rows_no_lf (r ∷ rows) (v ∷ values) each =
    HasNo-cons 10 32 (valued_row_text r v ++ rows_text rows values) refl (HasNo-append 10 (valued_row_text r v) (rows_text rows values) (valued_row_no 10 r v (omega arith) each.0) (rows_no_lf rows values each.1))

-- ---- one more of them

no_rows : (values : List (Option ℕ)) → rows_text [] values ≡ []
no_rows [] = refl
no_rows (v ∷ values) = refl

plain_step : (rows : List RowAt) (i : ℕ) (r : RowAt) → i < length rows → r ≡ get_or rows i r → plain_rows_text (drop i rows) ≡ 32 ∷ (row_text r ++ plain_rows_text (drop (i + 1) rows))
plain_step rows i r low is = at_drop_more plain_rows_text rows i r low ∙ ap (λ (q : RowAt). 32 ∷ (row_text q ++ plain_rows_text (drop (i + 1) rows))) (sym is)

rows_step : (rows : List RowAt) (values : List (Option ℕ)) (i : ℕ) (r : RowAt) → i < length rows → r ≡ get_or rows i r
    → rows_text (drop i rows) (drop i values) ≡ 32 ∷ (valued_row_text r (value_on values i) ++ rows_text (drop (i + 1) rows) (drop (i + 1) values))
rows_step rows [] i r low is =
    ap (rows_text (drop i rows)) (drop_all i [] (omega arith)) ∙ plain_step rows i r low is ∙ ap (λ vs. 32 ∷ (row_text r ++ rows_text (drop (i + 1) rows) vs)) (sym (drop_all (i + 1) [] (omega arith)))
rows_step [] (v ∷ values) i r low is = absurd (omega (arith, low))
rows_step (x ∷ rows) (v ∷ values) zero r low is = ap (λ (q : RowAt). 32 ∷ (valued_row_text q v ++ rows_text rows values)) (sym is)
rows_step (x ∷ rows) (v ∷ values) (suc i) r low is =
    let more : suc (i + 1) ≡ suc i + 1 = omega arith in
    rows_step rows values i r (omega (arith, low)) is ∙ ap (λ (k : ℕ). 32 ∷ (valued_row_text r (value_on values i) ++ rows_text (drop k (x ∷ rows)) (drop k (v ∷ values)))) more

module _ (rows : List RowAt) (values : List (Option ℕ)) (i : ℕ) (line whole : List ℕ) (before : line ++ rows_text (drop i rows) (drop i values) ≡ whole) where
  -- one more row is on the line
  pub rows_more : (r : RowAt) (v : Option ℕ) (spaced next : List ℕ) → i < length rows → r ≡ get_or rows i r → v ≡ value_on values i → spaced ≡ line ++ 32 ∷ [] → next ≡ spaced ++ valued_row_text r v
      → next ++ rows_text (drop (i + 1) rows) (drop (i + 1) values) ≡ whole
  rows_more r v spaced next low is number space put =
      let left = rows_text (drop (i + 1) rows) (drop (i + 1) values) in
      ap (λ l. l ++ left) (put ∙ ap (λ l. l ++ valued_row_text r v) space) ∙ append_assoc (line ++ 32 ∷ []) (valued_row_text r v) left ∙ append_assoc line (32 ∷ []) (valued_row_text r v ++ left)
      ∙ ap (λ (w : Option ℕ). line ++ 32 ∷ (valued_row_text r w ++ left)) number ∙ ap (λ l. line ++ l) (sym (rows_step rows values i r low is)) ∙ before

  -- all are
  pub rows_all : length rows ≤ i → line ≡ whole
  rows_all past = sym (append-nil line) ∙ ap (λ l. line ++ l) (sym (ap (λ rs. rows_text rs (drop i values)) (drop_all i rows past) ∙ no_rows (drop i values))) ∙ before
