-- Records of which one has a certain outcome.
use Rattle.std.proofs.Common.{◌≡◌, ◌<◌, ◌+◌, ◌||◌, ℕ, Bool, List, [], Option, Result, Ok, Err, OnOk, OnErr, refl, drop, length, get_or, sym, ap, subst, ◌∙◌}
use Rattle.std.proofs.lemmas.List.{at_drop_more}
use Rattle.spg_report.specs.declared.outcome.Outcome.{Outcome}
use Rattle.spg_report.specs.declared.record.Record.{Record}
use Rattle.spg_base.specs.declared.recorded.Origin.{Origin}
use Rattle.spg_opclass.specs.Meaning.{Meaning}
use Rattle.spg_rows.specs.declared.event.Event.{Event}
use Rattle.spg_core.specs.Seen.{Seen}
use Rattle.spg_script.specs.Speech.{Speech}
use Rattle.spg_report.specs.Text.{text}
use Rattle.spg_histories.specs.Tasks.{Task}
use Rattle.spg_perform.specs.Session.{Outside, Session}
use Rattle.std.specs.Io.KnownBytes.{Appends}
use Rattle.spg_io.specs.Causes.{Rose, HasCauseIfFailed}
use Rattle.spg_io.specs.declared.sink.IoRefused.{IoRefused}
use Rattle.spg_io.specs.declared.sink.IoRefused.TheVariants as refused
use Rattle.spg_histories.specs.Ending.{any_outcome, all_taken, write_failed}
use Rattle.spg_histories.specs.Exact.{RunFits}
use Rattle.spg_histories.specs.Answer.{Wrote}
use Rattle.spg_streams.specs.Io.{WroteSome}
use Rattle.spg_app.specs.Ending.{writing_of}

-- from one record on
pub any_from : (test : Outcome → Bool) (records : List Record) (i : ℕ) (r : Record) → i < length records → r ≡ get_or records i r → any_outcome test (drop i records) ≡ test r.outcome || any_outcome test (drop (i + 1) records)
any_from test records i r within is = at_drop_more (any_outcome test) records i r within ∙ ap (λ (x : Record). test x.outcome || any_outcome test (drop (i + 1) records)) (sym is)

-- ---- what writing met

-- all of a text was taken, or a front of it
pub wrote_of : (result : Result Unit IoRefused) (old new : Option (List ℕ)) (whole : List ℕ) → OnOk result (Appends old new whole) → OnErr result (WroteSome old new whole) → Wrote (writing_of result) old new whole
wrote_of (Ok done) old new whole all some = all
wrote_of (Err refused.Failed) old new whole all some = (some.1.0, some.0, some.1.1, some.1.2)
wrote_of (Err refused.Memory) old new whole all some = (some.1.0, some.0, some.1.1, some.1.2)

pub cause_of : (result : Result Unit IoRefused) (before now : ℕ) → HasCauseIfFailed before now result → writing_of result ≡ write_failed → Rose before now
cause_of (Ok done) before now cause is = absurd (cc)
cause_of (Err refused.Failed) before now cause is = cause.failed refl
cause_of (Err refused.Memory) before now cause is = absurd (cc)

pub unfailed_of : (result : Result Unit IoRefused) (before now : ℕ) → OnOk result (now ≡ before) → writing_of result ≡ all_taken → now ≡ before
unfailed_of (Ok done) before now same is = same
unfailed_of (Err refused.Failed) before now same is = absurd (cc)
unfailed_of (Err refused.Memory) before now same is = absurd (cc)

pub wrote_as : (result : Result Unit IoRefused) (old new : Option (List ℕ)) (whole whole2 : List ℕ) → whole ≡ whole2 → OnOk result (Appends old new whole) → OnErr result (WroteSome old new whole) → Wrote (writing_of result) old new whole2
wrote_as result old new whole whole2 is all some = subst (λ t. Wrote (writing_of result) old new t) is (wrote_of result old new whole all some)

-- the numbers of what was taken whole fit their types
fits_of : {O Key Recon Cond : Type 0} (result : Result Unit IoRefused) (journal : List (Event O Key Recon Cond)) (records : List Record) → OnOk result (RunFits journal records) → writing_of result ≡ all_taken → RunFits journal records
fits_of (Ok done) journal records fits is = fits
fits_of (Err refused.Failed) journal records fits is = absurd (cc)
fits_of (Err refused.Memory) journal records fits is = absurd (cc)

pub fits_as : {O Key Recon Cond : Type 0} (result : Result Unit IoRefused) (journal journal2 : List (Event O Key Recon Cond)) (records records2 : List Record) → journal ≡ journal2 → records ≡ records2
    → OnOk result (RunFits journal records) → writing_of result ≡ all_taken → RunFits journal2 records2
fits_as result journal journal2 records records2 same same2 fits is = subst (λ rs. RunFits journal2 rs) same2 (subst (λ j. RunFits j records) same (fits_of result journal records fits is))

module _ {O Key Recon Cond : Type 0} (speech : Speech Key Cond) where
  pub text_same : (journal journal2 : List (Event O Key Recon Cond)) (records records2 : List Record) → journal ≡ journal2 → records ≡ records2 → text speech journal records ≡ text speech journal2 records2
  text_same journal journal2 records records2 is is2 = ap (λ j. text speech j records) is ∙ ap (λ rs. text speech journal2 rs) is2

  pub of_origin : (m : Meaning Key Recon Cond) (code : ℕ) (a b : Outside) (origin origin2 : Origin) (tasks : List Task) (seen : Seen O Key Recon Cond) (records : List Record) → origin ≡ origin2
      → Session m speech code [] origin a b tasks seen records → Session m speech code [] origin2 a b tasks seen records
  of_origin m code a b origin origin2 tasks seen records is session = subst (λ o. Session m speech code [] o a b tasks seen records) is session
