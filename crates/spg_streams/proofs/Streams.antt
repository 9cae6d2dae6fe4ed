-- Reading and writing in several calls.
use Rattle.std.proofs.Common.{◌≡◌, ◌<◌, ◌+◌, ◌^◌, ℕ, List, [], ◌∷◌, ◌++◌, drop, length, get_or, Result, Ok, Err, OnOk, OnErr, refl, sym, ap, subst, ◌∙◌}
use Rattle.std.specs.List.{AllByRecursion}
use Rattle.std.specs.declared.option.Option.{Option}
use Rattle.std.proofs.lemmas.List.{append_assoc, append-nil, at_drop_more}
use Rattle.std.specs.Io.KnownBytes.{Appends}
use Rattle.std.proofs.KnownBytes.{Appends-trans, Appends-nil}
use Rattle.spg_streams.specs.Io.{Wrote, WroteSome}
use Rattle.spg_rows.specs.declared.event.Event.{Event}
use Rattle.spg_report.specs.declared.record.Record.{Record}
use Rattle.spg_script.specs.Speech.{Speech}
use Rattle.spg_report.specs.Told.{FitsRecord}
use Rattle.spg_histories.specs.Exact.{FitsTypes, RunFits}
use Rattle.spg_report.specs.Text.{text, ended, journal_text, plain_text, plain_lines, result_text, result_lines, event_text, event_lines}

pub ended-append : (xs ys : List (List ℕ)) → ended (xs ++ ys) ≡ ended xs ++ ended ys
ended-append [] ys = refl
ended-append (x ∷ xs) ys = ap (λ l. (x ++ 10 ∷ []) ++ l) (ended-append xs ys) ∙ sym (append_assoc (x ++ 10 ∷ []) (ended xs) (ended ys))

pub Wrote-more : (a b c : Option (List ℕ)) (text rest left piece : List ℕ) → Wrote a b text rest → Appends b c piece → rest ≡ piece ++ left → Wrote a c text left
Wrote-more a b c text rest left piece wrote next is =
    (wrote.0 ++ piece, Appends-trans a b c wrote.0 piece wrote.1 next, wrote.2 ∙ ap (λ l. wrote.0 ++ l) is ∙ sym (append_assoc wrote.0 piece left))

pub WroteSome-more : (a b c : Option (List ℕ)) (text rest left piece : List ℕ) → Wrote a b text rest → WroteSome b c piece → rest ≡ piece ++ left → WroteSome a c text
WroteSome-more a b c text rest left piece wrote some is =
    (some.0 ++ left, Wrote-more a b c text rest (some.0 ++ left) some.1.0 wrote some.1.1 (is ∙ ap (λ l. l ++ left) some.1.2 ∙ append_assoc some.1.0 some.0 left))

-- nothing is written yet
pub Wrote-none : (a : Option (List ℕ)) (text : List ℕ) → Wrote a a text text
Wrote-none a text = ([], Appends-nil a, refl)

pub WroteSome-none : (a : Option (List ℕ)) (text : List ℕ) → WroteSome a a text
WroteSome-none a text = (text, Wrote-none a text)

pub OnErr-always : {T E : Type 0} (r : Result T E) (P : Type 0) → P → OnErr r P
OnErr-always (Ok x) P p = tt
OnErr-always (Err e) P p = p

-- a text that is put on a line without bytes is the line
pub put_on_clear : (clear line text : List ℕ) → clear ≡ [] → line ≡ clear ++ text → line ≡ text
put_on_clear clear line text is put = put ∙ ap (λ l. l ++ text) is

-- ---- the lines of a run

pub plain_lines-more : (number : ℕ) (records : List Record) (i : ℕ) (one : Record) → i < length records → one ≡ get_or records i one
    → ended (plain_lines number (drop i records)) ≡ (plain_text number one ++ 10 ∷ []) ++ ended (plain_lines (number + 1) (drop (i + 1) records))
plain_lines-more number records i one within is =
    at_drop_more (λ rs. ended (plain_lines number rs)) records i one within ∙ ap (λ (r : Record). (plain_text number r ++ 10 ∷ []) ++ ended (plain_lines (number + 1) (drop (i + 1) records))) (sym is)

module _ {O Key Recon Cond : Type 0} (speech : Speech Key Cond) where
  pub result_lines-more : (journal : List (Event O Key Recon Cond)) (number : ℕ) (records : List Record) (i : ℕ) (one : Record) → i < length records → one ≡ get_or records i one
      → ended (result_lines speech journal number (drop i records)) ≡ (result_text speech journal number one ++ 10 ∷ []) ++ ended (result_lines speech journal (number + 1) (drop (i + 1) records))
  result_lines-more journal number records i one within is =
      at_drop_more (λ rs. ended (result_lines speech journal number rs)) records i one within
      ∙ ap (λ (r : Record). (result_text speech journal number r ++ 10 ∷ []) ++ ended (result_lines speech journal (number + 1) (drop (i + 1) records))) (sym is)

  pub event_lines-more : (at : ℕ) (events : List (Event O Key Recon Cond)) (i : ℕ) (one : Event O Key Recon Cond) → i < length events → one ≡ get_or events i one
      → ended (event_lines speech at (drop i events)) ≡ (event_text speech at one ++ 10 ∷ []) ++ ended (event_lines speech (at + 1) (drop (i + 1) events))
  event_lines-more at events i one within is =
      at_drop_more (λ es. ended (event_lines speech at es)) events i one within ∙ ap (λ (e : Event O Key Recon Cond). (event_text speech at e ++ 10 ∷ []) ++ ended (event_lines speech (at + 1) (drop (i + 1) events))) (sym is)

  -- ---- the three parts of a text, one after another

  module _ (journal : List (Event O Key Recon Cond)) (records : List Record) (a b c d : Option (List ℕ)) (results : Appends a b (ended (result_lines speech journal 1 records))) where
    abbrev whole : List ℕ
    whole = text speech journal records

    abbrev line : List ℕ
    line = journal_text (length journal) ++ 10 ∷ []

    abbrev events : List ℕ
    events = ended (event_lines speech 0 journal)

    split : whole ≡ ended (result_lines speech journal 1 records) ++ (line ++ events)
    split = ended-append (result_lines speech journal 1 records) (journal_text (length journal) ∷ event_lines speech 0 journal)

    pub wrote_results : Wrote a b whole (line ++ events)
    wrote_results = Wrote-more a a b whole whole (line ++ events) (ended (result_lines speech journal 1 records)) (Wrote-none a whole) results split

    pub wrote_line : Appends b c line → Wrote a c whole events
    wrote_line next = Wrote-more a b c whole (line ++ events) events line wrote_results next refl

    pub line_fails : WroteSome b c line → WroteSome a c whole
    line_fails some = WroteSome-more a b c whole (line ++ events) events line wrote_results some refl

    pub all_wrote : Appends b c line → Appends c d events → Appends a d whole
    all_wrote next last =
        let wrote = Wrote-more a c d whole events [] events (wrote_line next) last (sym (append-nil events)) in
        subst (λ w. Appends a d w) (sym (wrote.2 ∙ append-nil wrote.0)) wrote.1

    pub events_fail : Appends b c line → WroteSome c d events → WroteSome a d whole
    events_fail next some = WroteSome-more a c d whole events [] events (wrote_line next) some (sym (append-nil events))

-- ---- lines

pub lines_more : (lines : List (List ℕ)) (i : ℕ) (one : List ℕ) → i < length lines → one ≡ get_or lines i one → ended (drop i lines) ≡ (one ++ 10 ∷ []) ++ ended (drop (i + 1) lines)
lines_more lines i one within is = at_drop_more ended lines i one within ∙ ap (λ (line : List ℕ). (line ++ 10 ∷ []) ++ ended (drop (i + 1) lines)) (sym is)

-- numbers that fit, where all was written
pub run_fits : {O Key Recon Cond T E : Type 0} (r : Result T E) (journal : List (Event O Key Recon Cond)) (records : List Record) → OnOk r (length journal < 2 ^ 64) → OnOk r (AllByRecursion FitsTypes journal) → 1 + length records < 2 ^ 64 → AllByRecursion FitsRecord records
    → OnOk r (RunFits journal records)
run_fits (Ok done) journal records short each few fit = record { short = short; few = few; events = each; records_fit = fit }
run_fits (Err refused) journal records short each few fit = tt
