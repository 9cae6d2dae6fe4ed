-- A record is read back from its line.
use Rattle.std.proofs.Common.{◌≡◌, ◌<◌, ◌^◌, ℕ, Bool, true, false, cond, List, [], ◌∷◌, ◌++◌, length, Option, Some, None, refl, ap, ◌∙◌, arith}
use Rattle.std.specs.List.{AllByRecursion}
use Rattle.std.specs.Prelude.{map, codes, bytes_eq}
use Rattle.std.specs.Fmt.{decimal}
use Rattle.std.proofs.lemmas.List.{append_assoc}
use Rattle.spg_base.specs.Row.{RowAt}
use Rattle.spg_base.specs.declared.recorded.Stat.{Stat}
use Rattle.spg_script.specs.Spelling.{IsRow}
use Rattle.spg_script.proofs.Digits.{HasNo, HasNo-cons, HasNo-append, HasNo-decimal}
use Rattle.spg_near.specs.declared.near_row.NearRow.{NearRow}
use Rattle.spg_report.specs.declared.outcome.Outcome.{Outcome}
use Rattle.spg_report.specs.declared.outcome.Outcome.TheVariants as outcome
use Rattle.spg_report.specs.declared.record.Record.{Record}
use Rattle.spg_report.specs.Text.{rows_text, stat_text, near_row_text, near_rows_text, outcome_text, valued_text}
use Rattle.spg_report.specs.Told.{FitsStat, FitsOutcome, FitsRecord}
use Rattle.spg_report.proofs.NearLines.{near_row_read, near_rows_parts, near_rows_read, near_rows_no_lf}
use Rattle.spg_report.proofs.Parts.{num, num-decimal, parts_at, parts-front, parts-end}
use Rattle.spg_report.proofs.RowLines.{valued_row_read, row_no_walk, rows_words, rows_parts, rows_read, rows_no_lf}

-- ---- the words of an outcome

abbrev numbered : List ℕ → ℕ → List (List ℕ) → List (List ℕ)
numbered word n more = word ∷ decimal n ∷ more

abbrev stat_words : Stat → List (List ℕ)
stat_words s = numbered (codes "pages") s.pages (numbered (codes "inner") s.inner (numbered (codes "leaf") s.leaf (numbered (codes "redirect") s.redirect
    (numbered (codes "dead") s.dead (numbered (codes "placeholder") s.placeholder (numbered (codes "clock") s.clock []))))))

abbrev outcome_words : Outcome → List (Option ℕ) → List (List ℕ)
outcome_words outcome.Added values = codes "added" ∷ []
outcome_words outcome.RowUsed values = codes "row" ∷ codes "used" ∷ []
outcome_words (outcome.RowHeld by) values = codes "row" ∷ codes "held" ∷ codes "by" ∷ decimal by ∷ []
outcome_words outcome.Full values = codes "full" ∷ []
outcome_words outcome.ClockFull values = codes "clock" ∷ codes "full" ∷ []
outcome_words outcome.Killed values = codes "killed" ∷ []
outcome_words outcome.NotLive values = codes "not" ∷ codes "live" ∷ []
outcome_words (outcome.Found rows None) values = codes "found" ∷ decimal (length rows) ∷ rows_words rows values
outcome_words (outcome.Found rows (Some walk)) values = codes "found" ∷ decimal (length rows) ∷ codes "walk" ∷ decimal walk ∷ rows_words rows values
outcome_words (outcome.Vacuumed swept) values = codes "vacuumed" ∷ decimal swept ∷ []
outcome_words (outcome.OpenBy seat) values = codes "open" ∷ codes "by" ∷ decimal seat ∷ []
outcome_words (outcome.Saved pages) values = codes "saved" ∷ decimal pages ∷ []
outcome_words outcome.ImageFault values = codes "image" ∷ codes "fault" ∷ []
outcome_words (outcome.Stat counts) values = codes "stat" ∷ stat_words counts
outcome_words (outcome.Near rows walk) values = codes "near" ∷ decimal (length rows) ∷ codes "walk" ∷ decimal walk ∷ map near_row_text rows
outcome_words outcome.Memory values = codes "memory" ∷ []

digits_apart : (n : ℕ) → n < 2 ^ 64 → HasNo 32 (decimal n)
digits_apart n small = HasNo-decimal 32 n (omega arith) small

-- a word, a number, and what comes next
behind : (word : List ℕ) (n : ℕ) (text : List ℕ) (words : List (List ℕ)) → HasNo 32 word → n < 2 ^ 64 → parts_at 32 text ≡ words → parts_at 32 (word ++ 32 ∷ (decimal n ++ 32 ∷ text)) ≡ numbered word n words
behind word n text words apart small is =
    parts-front 32 word (decimal n ++ 32 ∷ text) apart ∙ ap (λ l. word ∷ l) (parts-front 32 (decimal n) text (digits_apart n small) ∙ ap (λ l. decimal n ∷ l) is)

last_behind : (word : List ℕ) (n : ℕ) → HasNo 32 word → n < 2 ^ 64 → parts_at 32 (word ++ 32 ∷ decimal n) ≡ numbered word n []
last_behind word n apart small = parts-front 32 word (decimal n) apart ∙ ap (λ l. word ∷ l) (parts-end 32 (decimal n) (digits_apart n small))

-- a text in words with spaces between, grouped to the right
abbrev stat_tail : Stat → List ℕ
stat_tail s = codes "pages" ++ 32 ∷ (decimal s.pages ++ 32 ∷ (codes "inner" ++ 32 ∷ (decimal s.inner ++ 32 ∷ (codes "leaf" ++ 32 ∷ (decimal s.leaf ++ 32 ∷ (codes "redirect" ++ 32 ∷ (decimal s.redirect ++ 32 ∷
    (codes "dead" ++ 32 ∷ (decimal s.dead ++ 32 ∷ (codes "placeholder" ++ 32 ∷ (decimal s.placeholder ++ 32 ∷ (codes "clock" ++ 32 ∷ decimal s.clock))))))))))))

stat_grouped : (s : Stat) → stat_text s ≡ codes "stat" ++ 32 ∷ stat_tail s
stat_grouped s = simp append_assoc refl

stat_parts : (s : Stat) → FitsStat s → parts_at 32 (stat_tail s) ≡ stat_words s
stat_parts s fits =
    behind (codes "pages") s.pages _ _ refl fits.pages (behind (codes "inner") s.inner _ _ refl fits.inner (behind (codes "leaf") s.leaf _ _ refl fits.leaf (behind (codes "redirect") s.redirect _ _ refl fits.redirect
    (behind (codes "dead") s.dead _ _ refl fits.dead (behind (codes "placeholder") s.placeholder _ _ refl fits.placeholder (last_behind (codes "clock") s.clock refl fits.clock))))))

near_grouped : (count walk rows : List ℕ) → codes "near " ++ count ++ codes " walk " ++ walk ++ rows ≡ codes "near" ++ 32 ∷ (count ++ 32 ∷ (codes "walk" ++ 32 ∷ (walk ++ rows)))
near_grouped count walk rows = simp append_assoc refl

outcome_parts : (o : Outcome) (values : List (Option ℕ)) → FitsOutcome o → parts_at 32 (outcome_text o values) ≡ outcome_words o values
outcome_parts outcome.Added values fits = refl
outcome_parts outcome.RowUsed values fits = refl
outcome_parts (outcome.RowHeld by) values fits = ap (λ l. codes "row" ∷ codes "held" ∷ l) (last_behind (codes "by") by refl fits)
outcome_parts outcome.Full values fits = refl
outcome_parts outcome.ClockFull values fits = refl
outcome_parts outcome.Killed values fits = refl
outcome_parts outcome.NotLive values fits = refl
outcome_parts (outcome.Found rows None) values fits = ap (λ l. codes "found" ∷ l) (rows_parts (decimal (length rows)) rows values (digits_apart (length rows) fits.1) fits.0)
outcome_parts (outcome.Found rows (Some walk)) values fits =
    let grouped : outcome_text (outcome.Found rows (Some walk)) values ≡ codes "found" ++ 32 ∷ (decimal (length rows) ++ 32 ∷ (codes "walk" ++ 32 ∷ (decimal walk ++ rows_text rows values))) = simp append_assoc refl in
    ap (parts_at 32) grouped
    ∙ behind (codes "found") (length rows) (codes "walk" ++ 32 ∷ (decimal walk ++ rows_text rows values)) (codes "walk" ∷ decimal walk ∷ rows_words rows values) refl fits.1
    (ap (λ l. codes "walk" ∷ l) (rows_parts (decimal walk) rows values (digits_apart walk fits.2) fits.0))
outcome_parts (outcome.Vacuumed swept) values fits = last_behind (codes "vacuumed") swept refl fits
outcome_parts (outcome.OpenBy seat) values fits = ap (λ l. codes "open" ∷ l) (last_behind (codes "by") seat refl fits)
outcome_parts (outcome.Saved pages) values fits = last_behind (codes "saved") pages refl fits
outcome_parts outcome.ImageFault values fits = refl
outcome_parts (outcome.Stat counts) values fits = ap (parts_at 32) (stat_grouped counts) ∙ ap (λ l. codes "stat" ∷ l) (stat_parts counts fits)
outcome_parts (outcome.Near rows walk) values fits =
    ap (parts_at 32) (near_grouped (decimal (length rows)) (decimal walk) (near_rows_text rows))
    ∙ behind (codes "near") (length rows) (codes "walk" ++ 32 ∷ (decimal walk ++ near_rows_text rows)) (codes "walk" ∷ decimal walk ∷ map near_row_text rows) refl fits.1
    (ap (λ l. codes "walk" ∷ l) (near_rows_parts (decimal walk) rows (digits_apart walk fits.2) fits.0))
outcome_parts outcome.Memory values fits = refl

-- ---- an outcome from its words

abbrev is_word : List ℕ → List ℕ → Bool
is_word = bytes_eq

abbrev walked_from : List (List ℕ) → Bool → List (List ℕ) → Outcome
walked_from all true (walk ∷ rows) = outcome.Found (map valued_row_read rows) (Some (num walk))
walked_from all true [] = outcome.Memory
walked_from all false more = outcome.Found (map valued_row_read all) None

abbrev found_from : List (List ℕ) → Outcome
found_from [] = outcome.Memory
found_from (count ∷ []) = outcome.Found [] None
found_from (count ∷ w ∷ more) = walked_from (w ∷ more) (is_word w (codes "walk")) more

abbrev first_number : (ℕ → Outcome) → List (List ℕ) → Outcome
first_number make [] = outcome.Memory
first_number make (n ∷ more) = make (num n)

abbrev open_from : List (List ℕ) → Outcome
open_from [] = outcome.Memory
open_from (by ∷ more) = first_number (λ n. outcome.OpenBy n) more

abbrev row_from : List (List ℕ) → Outcome
row_from (held ∷ by ∷ seat ∷ []) = outcome.RowHeld (num seat)
row_from other = outcome.RowUsed

abbrev stat_from : List (List ℕ) → Outcome
stat_from (a ∷ pages ∷ b ∷ inner ∷ c ∷ leaf ∷ d ∷ redirect ∷ e ∷ dead ∷ f ∷ placeholder ∷ g ∷ clock ∷ []) =
    outcome.Stat (record { pages = num pages; inner = num inner; leaf = num leaf; redirect = num redirect; dead = num dead; placeholder = num placeholder; clock = num clock })
stat_from other = outcome.Memory

abbrev near_from : List (List ℕ) → Outcome
near_from (count ∷ w ∷ walk ∷ rows) = outcome.Near (map near_row_read rows) (num walk)
near_from other = outcome.Memory

abbrev outcome_from : List (List ℕ) → Outcome
outcome_from [] = outcome.Memory
outcome_from (w ∷ more) =
    cond (is_word w (codes "added")) outcome.Added
    (cond (is_word w (codes "row")) (row_from more)
    (cond (is_word w (codes "full")) outcome.Full
    (cond (is_word w (codes "clock")) outcome.ClockFull
    (cond (is_word w (codes "killed")) outcome.Killed
    (cond (is_word w (codes "not")) outcome.NotLive
    (cond (is_word w (codes "found")) (found_from more)
    (cond (is_word w (codes "vacuumed")) (first_number (λ n. outcome.Vacuumed n) more)
    (cond (is_word w (codes "open")) (open_from more)
    (cond (is_word w (codes "saved")) (first_number (λ n. outcome.Saved n) more)
    (cond (is_word w (codes "image")) outcome.ImageFault
    (cond (is_word w (codes "stat")) (stat_from more)
    (cond (is_word w (codes "near")) (near_from more) outcome.Memory))))))))))))

found_rows : (n : List ℕ) (rows : List RowAt) (values : List (Option ℕ)) → AllByRecursion IsRow rows → found_from (n ∷ rows_words rows values) ≡ outcome.Found rows None
found_rows n [] [] each = refl
found_rows n [] (v ∷ values) each = refl
found_rows n (r ∷ rows) [] each = rw (row_no_walk r None each.0) (ap (λ l. outcome.Found l None) (rows_read (r ∷ rows) [] each))
found_rows n (r ∷ rows) (v ∷ values) each = rw (row_no_walk r v each.0) (ap (λ l. outcome.Found l None) (rows_read (r ∷ rows) (v ∷ values) each))

found_walk : (n : List ℕ) (rows : List RowAt) (values : List (Option ℕ)) (walk : ℕ) → AllByRecursion IsRow rows → walk < 2 ^ 64 → found_from (n ∷ codes "walk" ∷ decimal walk ∷ rows_words rows values) ≡ outcome.Found rows (Some walk)
found_walk n rows values walk each small = ap (λ l. outcome.Found l (Some (num (decimal walk)))) (rows_read rows values each) ∙ ap (λ (w : ℕ). outcome.Found rows (Some w)) (num-decimal walk small)

stat_read : (s : Stat) → FitsStat s → stat_from (stat_words s) ≡ outcome.Stat s
stat_read s fits = rw (num-decimal s.pages fits.pages, num-decimal s.inner fits.inner, num-decimal s.leaf fits.leaf, num-decimal s.redirect fits.redirect, num-decimal s.dead fits.dead, num-decimal s.placeholder fits.placeholder, num-decimal s.clock fits.clock) refl

outcome_read : (o : Outcome) (values : List (Option ℕ)) → FitsOutcome o → outcome_from (outcome_words o values) ≡ o
outcome_read outcome.Added values fits = refl
outcome_read outcome.RowUsed values fits = refl
outcome_read (outcome.RowHeld by) values fits = ap (λ (n : ℕ). outcome.RowHeld n) (num-decimal by fits)
outcome_read outcome.Full values fits = refl
outcome_read outcome.ClockFull values fits = refl
outcome_read outcome.Killed values fits = refl
outcome_read outcome.NotLive values fits = refl
outcome_read (outcome.Found rows None) values fits = found_rows (decimal (length rows)) rows values fits.0
outcome_read (outcome.Found rows (Some walk)) values fits = found_walk (decimal (length rows)) rows values walk fits.0 fits.2
outcome_read (outcome.Vacuumed swept) values fits = ap (λ (n : ℕ). outcome.Vacuumed n) (num-decimal swept fits)
outcome_read (outcome.OpenBy seat) values fits = ap (λ (n : ℕ). outcome.OpenBy n) (num-decimal seat fits)
outcome_read (outcome.Saved pages) values fits = ap (λ (n : ℕ). outcome.Saved n) (num-decimal pages fits)
outcome_read outcome.ImageFault values fits = refl
outcome_read (outcome.Stat counts) values fits = stat_read counts fits
outcome_read (outcome.Near rows walk) values fits =
    ap (λ (l : List NearRow). outcome.Near l (num (decimal walk))) (near_rows_read rows fits.0) ∙ ap (λ (w : ℕ). outcome.Near rows w) (num-decimal walk fits.2)
outcome_read outcome.Memory values fits = refl

-- ---- a record from its line

abbrev record_from : List (List ℕ) → Record
record_from (number ∷ from ∷ to ∷ words) = record { span = record { from = num from; to = num to }; outcome = outcome_from words }
record_from other = record { span = record { from = 0; to = 0 }; outcome = outcome.Memory }

pub record_read : List ℕ → Record
record_read line = record_from (parts_at 32 line)

pub record_read-text : (number : ℕ) (r : Record) (values : List (Option ℕ)) → number < 2 ^ 64 → FitsRecord r → record_read (valued_text number r values) ≡ r
unfolding record_read
record_read-text number r values small fits =
    let words : parts_at 32 (valued_text number r values) ≡ decimal number ∷ decimal r.span.from ∷ decimal r.span.to ∷ outcome_words r.outcome values =
    parts-front 32 (decimal number) _ (digits_apart number small) ∙ ap (λ l. decimal number ∷ l) (parts-front 32 (decimal r.span.from) _ (digits_apart r.span.from fits.from)
    ∙ ap (λ l. decimal r.span.from ∷ l) (parts-front 32 (decimal r.span.to) _ (digits_apart r.span.to fits.to) ∙ ap (λ l. decimal r.span.to ∷ l) (outcome_parts r.outcome values fits.says))) in
    ap record_from words ∙ ap (λ (o : Outcome). record { span = record { from = num (decimal r.span.from); to = num (decimal r.span.to) }; outcome = o }) (outcome_read r.outcome values fits.says)
    ∙ ap (λ (n : ℕ). record { span = record { from = n; to = num (decimal r.span.to) }; outcome = r.outcome }) (num-decimal r.span.from fits.from)
    ∙ ap (λ (n : ℕ). record { span = record { from = r.span.from; to = n }; outcome = r.outcome }) (num-decimal r.span.to fits.to)

-- ---- no line ends within

digits_no_lf : (n : ℕ) → n < 2 ^ 64 → HasNo 10 (decimal n)
digits_no_lf n small = HasNo-decimal 10 n (omega arith) small

lf_behind : (word : List ℕ) (n : ℕ) (more : List ℕ) → HasNo 10 word → n < 2 ^ 64 → HasNo 10 more → HasNo 10 (word ++ decimal n ++ more)
lf_behind word n more apart small rest = HasNo-append 10 (word ++ decimal n) more (HasNo-append 10 word (decimal n) apart (digits_no_lf n small)) rest

outcome_no_lf : (o : Outcome) (values : List (Option ℕ)) → FitsOutcome o → HasNo 10 (outcome_text o values)
outcome_no_lf outcome.Added values fits = refl
outcome_no_lf outcome.RowUsed values fits = refl
outcome_no_lf (outcome.RowHeld by) values fits = HasNo-append 10 (codes "row held by ") (decimal by) refl (digits_no_lf by fits)
outcome_no_lf outcome.Full values fits = refl
outcome_no_lf outcome.ClockFull values fits = refl
outcome_no_lf outcome.Killed values fits = refl
outcome_no_lf outcome.NotLive values fits = refl
outcome_no_lf (outcome.Found rows None) values fits = HasNo-append 10 (codes "found " ++ decimal (length rows)) (rows_text rows values) (HasNo-append 10 (codes "found ") (decimal (length rows)) refl (digits_no_lf (length rows) fits.1)) (rows_no_lf rows values fits.0)
outcome_no_lf (outcome.Found rows (Some walk)) values fits =
    HasNo-append 10 (codes "found " ++ decimal (length rows) ++ codes " walk " ++ decimal walk) (rows_text rows values)
    (HasNo-append 10 (codes "found " ++ decimal (length rows) ++ codes " walk ") (decimal walk) (lf_behind (codes "found ") (length rows) (codes " walk ") refl fits.1 refl) (digits_no_lf walk fits.2)) (rows_no_lf rows values fits.0)
outcome_no_lf (outcome.Vacuumed swept) values fits = HasNo-append 10 (codes "vacuumed ") (decimal swept) refl (digits_no_lf swept fits)
outcome_no_lf (outcome.OpenBy seat) values fits = HasNo-append 10 (codes "open by ") (decimal seat) refl (digits_no_lf seat fits)
outcome_no_lf (outcome.Saved pages) values fits = HasNo-append 10 (codes "saved ") (decimal pages) refl (digits_no_lf pages fits)
outcome_no_lf outcome.ImageFault values fits = refl
outcome_no_lf (outcome.Stat s) values fits =
    let a = HasNo-append 10 (codes "stat pages ") (decimal s.pages) refl (digits_no_lf s.pages fits.pages) in
    let b = one (codes "stat pages " ++ decimal s.pages) (codes " inner ") s.inner a refl fits.inner in
    let c = one (codes "stat pages " ++ decimal s.pages ++ codes " inner " ++ decimal s.inner) (codes " leaf ") s.leaf b refl fits.leaf in
    let d = one (codes "stat pages " ++ decimal s.pages ++ codes " inner " ++ decimal s.inner ++ codes " leaf " ++ decimal s.leaf) (codes " redirect ") s.redirect c refl fits.redirect in
    let e = one (codes "stat pages " ++ decimal s.pages ++ codes " inner " ++ decimal s.inner ++ codes " leaf " ++ decimal s.leaf ++ codes " redirect " ++ decimal s.redirect) (codes " dead ") s.dead d refl fits.dead in
    let f = one (codes "stat pages " ++ decimal s.pages ++ codes " inner " ++ decimal s.inner ++ codes " leaf " ++ decimal s.leaf ++ codes " redirect " ++ decimal s.redirect ++ codes " dead " ++ decimal s.dead) (codes " placeholder ") s.placeholder e refl fits.placeholder in
    one (codes "stat pages " ++ decimal s.pages ++ codes " inner " ++ decimal s.inner ++ codes " leaf " ++ decimal s.leaf ++ codes " redirect " ++ decimal s.redirect ++ codes " dead " ++ decimal s.dead ++ codes " placeholder " ++ decimal s.placeholder) (codes " clock ") s.clock f refl fits.clock
  where
    one : (front word : List ℕ) (n : ℕ) → HasNo 10 front → HasNo 10 word → n < 2 ^ 64 → HasNo 10 (front ++ word ++ decimal n)
    one front word n before apart small = HasNo-append 10 (front ++ word) (decimal n) (HasNo-append 10 front word before apart) (digits_no_lf n small)
outcome_no_lf (outcome.Near rows walk) values fits =
    HasNo-append 10 (codes "near " ++ decimal (length rows) ++ codes " walk " ++ decimal walk) (near_rows_text rows)
    (HasNo-append 10 (codes "near " ++ decimal (length rows) ++ codes " walk ") (decimal walk) (lf_behind (codes "near ") (length rows) (codes " walk ") refl fits.1 refl) (digits_no_lf walk fits.2)) (near_rows_no_lf rows fits.0)
outcome_no_lf outcome.Memory values fits = refl

pub spaced_no_lf : (n : ℕ) (more : List ℕ) → n < 2 ^ 64 → HasNo 10 more → HasNo 10 (decimal n ++ 32 ∷ more)
spaced_no_lf n more small rest = HasNo-append 10 (decimal n) (32 ∷ more) (digits_no_lf n small) (HasNo-cons 10 32 more refl rest)

pub result_no_lf : (number : ℕ) (r : Record) (values : List (Option ℕ)) → number < 2 ^ 64 → FitsRecord r → HasNo 10 (valued_text number r values)
result_no_lf number r values small fits = spaced_no_lf number _ small (spaced_no_lf r.span.from _ fits.from (spaced_no_lf r.span.to _ fits.to (outcome_no_lf r.outcome values fits.says)))
