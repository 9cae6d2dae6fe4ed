-- Two runs that print alike have the same records, and journals that tell the same.
use Rattle.std.proofs.Common.{◌≡◌, ◌<◌, ◌+◌, ◌^◌, ℕ, List, [], ◌∷◌, ◌++◌, length, refl, sym, ap, ◌∙◌, arith, length-append}
use Rattle.std.specs.Prelude.{map, codes}
use Rattle.std.specs.List.{AllByRecursion}
use Rattle.std.specs.Fmt.{decimal}
use Rattle.std.proofs.lemmas.Option.{same_Some}
use Rattle.spg_rows.specs.declared.event.Event.{Event}
use Rattle.spg_script.specs.declared.key_form.KeyForm.{KeyForm}
use Rattle.spg_script.specs.Speech.{Speech, SpeaksAsPrinted}
use Rattle.spg_script.proofs.Digits.{HasNo, HasNo-append, HasNo-decimal}
use Rattle.spg_report.specs.declared.record.Record.{Record}
use Rattle.spg_report.specs.Text.{values_of, result_text, result_lines, event_text, event_lines, journal_text, text_lines, text}
use Rattle.spg_report.specs.Told.{told, FitsRecord, CanBePrinted}
use Rattle.spg_report.proofs.Parts.{parts_at, ended_parts, without_last}
use Rattle.spg_report.proofs.ResultLines.{record_read, record_read-text, result_no_lf}
use Rattle.spg_report.proofs.EventLines.{event_read, event_read-text, event_no_lf}

each_append : {A : Type 0} (P : A → Type 0) (xs ys : List A) → AllByRecursion P xs → AllByRecursion P ys → AllByRecursion P (xs ++ ys)
each_append P [] ys each more = more
each_append P (x ∷ xs) ys each more = (each.0, each_append P xs ys each.1 more)

-- lists of lines that begin with as many
split_lines : {A : Type 0} (xs ys : List A) (more rest : List A) → xs ++ more ≡ ys ++ rest → length xs ≡ length ys → (xs ≡ ys) × (more ≡ rest)
split_lines [] [] more rest same long = (refl, same)
split_lines [] (y ∷ ys) more rest same long = absurd (omega arith)
split_lines (x ∷ xs) [] more rest same long = absurd (omega arith)
split_lines {A} (x ∷ xs) (y ∷ ys) more rest same long =
    let head : x ≡ y = (cc) in
    let tail : xs ++ more ≡ ys ++ rest = (cc) in
    let later = split_lines xs ys more rest tail (omega arith) in
    (ap (λ (h : A). h ∷ xs) head ∙ ap (λ (l : List A). y ∷ l) later.0, later.1)

module _ {O Key Recon Cond : Type 0} (speech : Speech Key Cond) where
  length_results : (journal : List (Event O Key Recon Cond)) (number : ℕ) (records : List Record) → length (result_lines speech journal number records) ≡ length records
  length_results journal number [] = refl
  length_results journal number (r ∷ records) = omega (arith, length_results journal (number + 1) records)

  records_are : (journal other : List (Event O Key Recon Cond)) (number : ℕ) (records more : List Record) → number + length records < 2 ^ 64 → AllByRecursion FitsRecord records → AllByRecursion FitsRecord more
      → result_lines speech journal number records ≡ result_lines speech other number more → records ≡ more
  records_are journal other number [] [] few fits fits2 same = refl
  records_are journal other number [] (s ∷ more) few fits fits2 same = (cc)
  records_are journal other number (r ∷ records) [] few fits fits2 same = (cc)
  records_are journal other number (r ∷ records) (s ∷ more) few fits fits2 same =
      let head : result_text speech journal number r ≡ result_text speech other number s = (cc) in
      let tail : result_lines speech journal (number + 1) records ≡ result_lines speech other (number + 1) more = (cc) in
      let one : r ≡ s = sym (record_read-text number r (values_of speech journal r) (omega arith) fits.0) ∙ ap record_read head ∙ record_read-text number s (values_of speech other s) (omega arith) fits2.0 in
      ap (λ (x : Record). x ∷ records) one ∙ ap (λ l. s ∷ l) (records_are journal other (number + 1) records more (omega arith) fits.1 fits2.1 tail)

  results_no_lf : (journal : List (Event O Key Recon Cond)) (number : ℕ) (records : List Record) → number + length records < 2 ^ 64 → AllByRecursion FitsRecord records → AllByRecursion (HasNo 10) (result_lines speech journal number records)
  results_no_lf journal number [] few fits = tt
  results_no_lf journal number (r ∷ records) few fits = (result_no_lf number r (values_of speech journal r) (omega arith) fits.0, results_no_lf journal (number + 1) records (omega arith) fits.1)

module _ {O Key Recon Cond : Type 0} (keys : KeyForm) (speech : Speech Key Cond) (law : SpeaksAsPrinted speech) where
  events_are : (at : ℕ) (events other : List (Event O Key Recon Cond)) → at + length events < 2 ^ 64 → AllByRecursion (CanBePrinted keys speech) events → AllByRecursion (CanBePrinted keys speech) other
      → event_lines speech at events ≡ event_lines speech at other → map told events ≡ map told other
  events_are at [] [] few fits fits2 same = refl
  events_are at [] (f ∷ other) few fits fits2 same = (cc)
  events_are at (e ∷ events) [] few fits fits2 same = (cc)
  events_are at (e ∷ events) (f ∷ other) few fits fits2 same =
      let head : event_text speech at e ≡ event_text speech at f = (cc) in
      let tail : event_lines speech (at + 1) events ≡ event_lines speech (at + 1) other = (cc) in
      let one : told e ≡ told f = same_Some (told e) (told f) (sym (event_read-text keys speech law at e (omega arith) fits.0.seat fits.0.fits fits.0.named) ∙ ap (event_read keys speech law) head ∙ event_read-text keys speech law at f (omega arith) fits2.0.seat fits2.0.fits fits2.0.named) in
      ap (λ (x : Event O Key Recon Cond). x ∷ map told events) one ∙ ap (λ l. told f ∷ l) (events_are (at + 1) events other (omega arith) fits.1 fits2.1 tail)

  events_no_lf : (at : ℕ) (events : List (Event O Key Recon Cond)) → at + length events < 2 ^ 64 → AllByRecursion (CanBePrinted keys speech) events → AllByRecursion (HasNo 10) (event_lines speech at events)
  events_no_lf at [] few fits = tt
  events_no_lf at (e ∷ events) few fits = (event_no_lf keys speech law at e (omega arith) fits.0.seat fits.0.fits fits.0.named, events_no_lf (at + 1) events (omega arith) fits.1)

  lines_no_lf : (journal : List (Event O Key Recon Cond)) (records : List Record) → 1 + length records < 2 ^ 64 → length journal < 2 ^ 64 → AllByRecursion FitsRecord records → AllByRecursion (CanBePrinted keys speech) journal
      → AllByRecursion (HasNo 10) (text_lines speech journal records)
  lines_no_lf journal records few short fits printed =
      each_append (HasNo 10) (result_lines speech journal 1 records) (journal_text (length journal) ∷ event_lines speech 0 journal) (results_no_lf speech journal 1 records few fits)
      (HasNo-append 10 (codes "journal ") (decimal (length journal)) refl (HasNo-decimal 10 (length journal) (omega arith) short), events_no_lf 0 journal (omega arith) printed)

  -- the text says all of the records, and all that lines tell of the events
  pub text_tells : (journal other : List (Event O Key Recon Cond)) (records more : List Record) → length records ≡ length more → 1 + length records < 2 ^ 64 → length journal < 2 ^ 64 → length other < 2 ^ 64
      → AllByRecursion FitsRecord records → AllByRecursion FitsRecord more → AllByRecursion (CanBePrinted keys speech) journal → AllByRecursion (CanBePrinted keys speech) other
      → text speech journal records ≡ text speech other more → (records ≡ more) × (map told journal ≡ map told other)
  text_tells journal other records more many few short short2 fits fits2 printed printed2 same =
      let few2 : 1 + length more < 2 ^ 64 = omega (arith, many) in
      let lines : text_lines speech journal records ++ [] ∷ [] ≡ text_lines speech other more ++ [] ∷ [] =
      sym (ended_parts (text_lines speech journal records) (lines_no_lf journal records few short fits printed)) ∙ ap (parts_at 10) same ∙ ended_parts (text_lines speech other more) (lines_no_lf other more few2 short2 fits2 printed2) in
      let long : length (text_lines speech journal records) ≡ length (text_lines speech other more) =
      omega (arith, ap length lines, length-append (text_lines speech journal records) ([] ∷ []), length-append (text_lines speech other more) ([] ∷ [])) in
      let whole : text_lines speech journal records ≡ text_lines speech other more = without_last (text_lines speech journal records) (text_lines speech other more) [] lines long in
      let parts = split_lines (result_lines speech journal 1 records) (result_lines speech other 1 more) _ _ whole (length_results speech journal 1 records ∙ many ∙ sym (length_results speech other 1 more)) in
      let tail : event_lines speech 0 journal ≡ event_lines speech 0 other = (cc) in
      (records_are speech journal other 1 records more few fits fits2 parts.0, events_are 0 journal other (omega arith) printed printed2 tail)
