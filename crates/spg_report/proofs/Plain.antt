-- Without numbers of keys no number of a row is printed.
use Rattle.std.proofs.Common.{◌≡◌, ◌+◌, ℕ, List, [], ◌∷◌, ◌++◌, length, Option, Some, None, refl, sym, ap, ◌∙◌, subst}
use Rattle.std.specs.Prelude.{map, codes}
use Rattle.std.specs.Fmt.{decimal}
use Rattle.std.proofs.lemmas.List.{length-map}
use Rattle.spg_base.specs.Row.{RowAt}
use Rattle.spg_base.specs.Text.{row_text}
use Rattle.spg_rows.specs.declared.event.Event.{Event}
use Rattle.spg_rows.specs.Rows.{key_of}
use Rattle.spg_calls.specs.Calls.{past_at}
use Rattle.spg_script.specs.Speech.{Speech, HasNoValues}
use Rattle.spg_report.specs.declared.outcome.Outcome.{Outcome}
use Rattle.spg_report.specs.declared.outcome.Outcome.TheVariants as outcome
use Rattle.spg_report.specs.declared.record.Record.{Record}
use Rattle.spg_report.specs.Told.{AreValuesFor}
use Rattle.spg_report.specs.Text.{value_beside, value_in, values_found, values_of, rows_text, plain_rows_text, valued_row_text, outcome_text, result_text, plain_text, result_lines, plain_lines, journal_text, event_lines, ended, PlainWithoutValues}

none_beside : {Key Cond : Type 0} (speech : Speech Key Cond) → HasNoValues speech → (key : Option (Option Key)) → value_beside speech key ≡ None
none_beside speech none None = refl
none_beside speech none (Some None) = refl
none_beside speech none (Some (Some key)) = none key

module _ {O Key Recon Cond : Type 0} (speech : Speech Key Cond) (none : HasNoValues speech) where
  module _ (journal : List (Event O Key Recon Cond)) where
    none_in : (to : ℕ) (row : RowAt) → value_in speech journal to row ≡ None
    none_in to row = none_beside speech none (key_of row (past_at to journal))

    plain_rows : (to : ℕ) (rows : List RowAt) → rows_text rows (map (λ r. value_in speech journal to r) rows) ≡ plain_rows_text rows
    plain_rows to [] = refl
    plain_rows to (r ∷ rows) =
        ap (λ v. 32 ∷ (valued_row_text r v ++ rows_text rows (map (λ q. value_in speech journal to q) rows))) (none_in to r) ∙ ap (λ l. 32 ∷ (row_text r ++ l)) (plain_rows to rows)

    plain_outcome : (to : ℕ) (o : Outcome) → outcome_text o (values_found speech journal to o) ≡ outcome_text o []
    plain_outcome to outcome.Added = refl
    plain_outcome to outcome.RowUsed = refl
    plain_outcome to (outcome.RowHeld by) = refl
    plain_outcome to outcome.Full = refl
    plain_outcome to outcome.ClockFull = refl
    plain_outcome to outcome.Killed = refl
    plain_outcome to outcome.NotLive = refl
    plain_outcome to (outcome.Found rows None) = ap (λ l. codes "found " ++ decimal (length rows) ++ l) (plain_rows to rows)
    plain_outcome to (outcome.Found rows (Some walk)) = ap (λ l. codes "found " ++ decimal (length rows) ++ codes " walk " ++ decimal walk ++ l) (plain_rows to rows)
    plain_outcome to (outcome.Vacuumed swept) = refl
    plain_outcome to (outcome.OpenBy seat) = refl
    plain_outcome to (outcome.Saved pages) = refl
    plain_outcome to outcome.ImageFault = refl
    plain_outcome to (outcome.Stat counts) = refl
    plain_outcome to (outcome.Near rows walk) = refl
    plain_outcome to outcome.Memory = refl

    plain_result : (number : ℕ) (r : Record) → result_text speech journal number r ≡ plain_text number r
    plain_result number r = ap (λ l. decimal number ++ 32 ∷ (decimal r.span.from ++ 32 ∷ (decimal r.span.to ++ 32 ∷ l))) (plain_outcome r.span.to r.outcome)

    pub plain_results : (number : ℕ) (records : List Record) → result_lines speech journal number records ≡ plain_lines number records
    plain_results number [] = refl
    plain_results number (r ∷ records) = ap (λ l. l ∷ result_lines speech journal (number + 1) records) (plain_result number r) ∙ ap (λ ls. plain_text number r ∷ ls) (plain_results (number + 1) records)

pub plain_without : (O Key Recon Cond : Type 0) → PlainWithoutValues O Key Recon Cond
plain_without O Key Recon Cond speech none journal records = ap (λ ls. ended (ls ++ journal_text (length journal) ∷ event_lines speech 0 journal)) (plain_results speech none journal 1 records)

-- ---- a number for each row that was found

module _ {O Key Recon Cond : Type 0} (speech : Speech Key Cond) (journal : List (Event O Key Recon Cond)) where
  fit_found : (to : ℕ) (o : Outcome) → AreValuesFor o (values_found speech journal to o)
  fit_found to outcome.Added = refl
  fit_found to outcome.RowUsed = refl
  fit_found to (outcome.RowHeld by) = refl
  fit_found to outcome.Full = refl
  fit_found to outcome.ClockFull = refl
  fit_found to outcome.Killed = refl
  fit_found to outcome.NotLive = refl
  fit_found to (outcome.Found rows walk) = length-map rows (λ r. value_in speech journal to r)
  fit_found to (outcome.Vacuumed swept) = refl
  fit_found to (outcome.OpenBy seat) = refl
  fit_found to (outcome.Saved pages) = refl
  fit_found to outcome.ImageFault = refl
  fit_found to (outcome.Stat counts) = refl
  fit_found to (outcome.Near rows walk) = refl
  fit_found to outcome.Memory = refl

  pub values_fit : (r : Record) (values : List (Option ℕ)) → values ≡ values_of speech journal r → AreValuesFor r.outcome values
  values_fit r values are = subst (AreValuesFor r.outcome) (sym are) (fit_found r.span.to r.outcome)
