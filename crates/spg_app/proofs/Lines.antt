-- What the readers of the words tell of lines.
use Rattle.std.proofs.Common.{◌≡◌, ℕ, List, Option, Some, None, refl, sym, ap, ◌∙◌, subst}
use Rattle.std.specs.Borrow.{Bor}
use Rattle.spg_words.specs.declared.load.Load.{Load}
use Rattle.spg_words.specs.declared.run_line.RunLine.{RunLine}
use Rattle.spg_words.specs.declared.build_line.BuildLine.{BuildLine}
use Rattle.spg_words.specs.declared.standby_line.StandbyLine.{StandbyLine}
use Rattle.spg_words.specs.Reading.{word_in}
use Rattle.spg_words.specs.Asked.{run_told, run_of, name_told, check_of, load_of, build_told, build_of, standby_of}
use Rattle.spg_words.specs.Lines.{IsRunLine, IsCheckLine, IsLoadLine, IsBuildLine, IsStandbyLine}
use Rattle.spg_words.proofs.Exact.{exact}
use Rattle.spg_histories.specs.declared.status.Status.{Status}
use Rattle.spg_app.specs.declared.end_state.EndState.{EndState}
use Rattle.spg_app.specs.Checks.{IsChecked}
use Rattle.spg_app.specs.Ending.{Outlets}
use Rattle.spg_app.specs.Loads.{IsGen}
use Rattle.spg_app.specs.Builds.{IsBuildOf}
use Rattle.spg_app.specs.Standbys.{Sunk, IsStandbyRun}
use Rattle.spg_app.specs.Headline.{Streams, IsRun}

-- what is no value is None
pub none_of : {A : Type 0} (o : Option A) → ((x : A) → o ≡ Some x → ⊥) → o ≡ None
none_of None not_some = refl
none_of (Some x) not_some = absurd (not_some x refl)

module _ (words : List (List ℕ)) where
  pub run_line : (o : Option RunLine) (line : RunLine) → run_told o ≡ run_of words → o ≡ Some line → IsRunLine line.limit (word_in line.from) words
  run_line o line value is = (exact.run words line.limit (word_in line.from)).0 (sym value ∙ ap run_told is)

  pub no_run_line : (o : Option RunLine) → run_told o ≡ run_of words → o ≡ None → (n : ℕ) (from : Option (List ℕ)) → IsRunLine n from words → ⊥
  no_run_line o value none n from line = let some = (exact.run words n from).1 line in absurd (cc (sym value ∙ ap run_told none, some))

  pub check_line : (o : Option (Bor (List ℕ))) (name : Bor (List ℕ)) → name_told o ≡ check_of words → o ≡ Some name → IsCheckLine name.now words
  check_line o name value is = (exact.check words name.now).0 (sym value ∙ ap name_told is)

  pub no_check_line : (o : Option (Bor (List ℕ))) → name_told o ≡ check_of words → o ≡ None → (name : List ℕ) → IsCheckLine name words → ⊥
  no_check_line o value none name line = let some = (exact.check words name).1 line in absurd (cc (sym value ∙ ap name_told none, some))

  pub load_line : (o : Option Load) (load : Load) → o ≡ load_of words → o ≡ Some load → IsLoadLine load words
  load_line o load value is = (exact.load words load).0 (sym value ∙ is)

  pub no_load_line : (o : Option Load) → o ≡ load_of words → o ≡ None → (load : Load) → IsLoadLine load words → ⊥
  no_load_line o value none load line = let some = (exact.load words load).1 line in absurd (cc (sym value ∙ none, some))

  pub build_line : (o : Option BuildLine) (line : BuildLine) → build_told o ≡ build_of words → o ≡ Some line → IsBuildLine line.name.now line.workers words
  build_line o line value is = (exact.build words line.name.now line.workers).0 (sym value ∙ ap build_told is)

  pub no_build_line : (o : Option BuildLine) → build_told o ≡ build_of words → o ≡ None → (name : List ℕ) (workers : ℕ) → IsBuildLine name workers words → ⊥
  no_build_line o value none name workers line = let some = (exact.build words name workers).1 line in absurd (cc (sym value ∙ ap build_told none, some))

  pub standby_line : (o : Option StandbyLine) (line : StandbyLine) → o ≡ standby_of words → o ≡ Some line → IsStandbyLine line.lag line.limit words
  standby_line o line value is = (exact.standby words line.lag line.limit).0 (sym value ∙ is)

  pub no_standby_line : (o : Option StandbyLine) → o ≡ standby_of words → o ≡ None → (lag limit : ℕ) → IsStandbyLine lag limit words → ⊥
  no_standby_line o value none lag limit line = let some = (exact.standby words lag limit).1 line in absurd (cc (sym value ∙ none, some))

  -- ---- one line asks for one thing

  pub run_asked : (m n : ℕ) (a b : Option (List ℕ)) (io : Streams) (out : Outlets) (status : Status) (end : Option EndState) → IsRunLine m a words → IsRunLine n b words → IsRun m a io out status end → IsRun n b io out status end
  run_asked m n a b io out status end line other run =
      let same = exact.one_run words m n a b line other in
      subst (λ k. IsRun k b io out status end) same.0 (subst (λ (x : Option (List ℕ)). IsRun m x io out status end) same.1 run)

  pub check_asked : (a b : List ℕ) (out : Outlets) (status : Status) → IsCheckLine a words → IsCheckLine b words → IsChecked a out status → IsChecked b out status
  check_asked a b out status line other checked = subst (λ (x : List ℕ). IsChecked x out status) (exact.one_check words a b line other) checked

  pub build_asked : (a b : List ℕ) (m n : ℕ) (left left_after : Option (List ℕ)) (f g : ℕ) (out : Outlets) (status : Status) → IsBuildLine a m words → IsBuildLine b n words → IsBuildOf a left left_after f g out status → IsBuildOf b left left_after f g out status
  build_asked a b m n left left_after f g out status line other run = subst (λ (x : List ℕ). IsBuildOf x left left_after f g out status) (exact.one_build words a b m n line other).0 run

  pub standby_asked : (a b m n : ℕ) (left left_after : Option (List ℕ)) (f g : ℕ) (out : Sunk) (status : Status) (end : Option EndState) → IsStandbyLine a m words → IsStandbyLine b n words → IsStandbyRun a m left left_after f g out status end → IsStandbyRun b n left left_after f g out status end
  standby_asked a b m n left left_after f g out status end line other run =
      let same = exact.one_standby words a b m n line other in
      subst (λ k. IsStandbyRun k n left left_after f g out status end) same.0 (subst (λ k. IsStandbyRun a k left left_after f g out status end) same.1 run)
