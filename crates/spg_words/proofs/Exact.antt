-- The readers of command lines are exact.
use Rattle.std.proofs.Common.{refl, sym, ap, ◌∙◌}
use Rattle.std.specs.Prelude.{codes}
use Rattle.std.proofs.lemmas.Option.{same_Some}
use Rattle.spg_words.specs.declared.standby_line.StandbyLine.{StandbyLine}
use Rattle.spg_words.specs.Asked.{Run, Build}
use Rattle.spg_words.specs.Exact.{LinesAreExact}
use Rattle.spg_words.proofs.Lines.{differ, first_word, run, run_tells, run_reads, check_tells, check_reads, load_tells, load_reads}
use Rattle.spg_words.proofs.BuildLines.{asked_for, build_tells, build_reads}
use Rattle.spg_words.proofs.StandbyLines.{lag_and_limit, standby_tells, standby_reads}

pub exact : LinesAreExact
exact = record {
  run = λ words n from. (run_tells words n from, run_reads words n from);
  check = λ words name. (check_tells words name, check_reads words name);
  load = λ words load. (load_tells words load, load_reads words load);
  build = λ words name n. (build_tells words name n, build_reads words name n);
  standby = λ words lag limit. (standby_tells words lag limit, standby_reads words lag limit);
  one_run = λ words m n a b p q. let same = same_Some (run m a) (run n b) (sym (run_reads words m a p) ∙ run_reads words n b q) in (ap (λ (r : Run). r.limit) same, ap (λ (r : Run). r.from) same);
  one_check = λ words a b p q. same_Some a b (sym (check_reads words a p) ∙ check_reads words b q);
  one_load = λ words a b c d. same_Some a b (sym (load_reads words a c) ∙ load_reads words b d);
  one_build = λ words a b m n p q. let same = same_Some (asked_for a m) (asked_for b n) (sym (build_reads words a m p) ∙ build_reads words b n q) in (ap (λ (x : Build). x.name) same, ap (λ (x : Build). x.workers) same);
  one_standby = λ words a b m n p q. let same = same_Some (lag_and_limit a m) (lag_and_limit b n) (sym (standby_reads words a m p) ∙ standby_reads words b n q) in (ap (λ (x : StandbyLine). x.lag) same, ap (λ (x : StandbyLine). x.limit) same);
  no_run_and_load = λ words n from load a b. differ (codes "run") (codes "gen") refl (ap first_word (sym a.command ∙ b.command));
  no_run_and_check = λ words n from name a b. differ (codes "run") (codes "check") refl (ap first_word (sym a.command ∙ b.command));
  no_check_and_load = λ words name load a b. differ (codes "check") (codes "gen") refl (ap first_word (sym a.command ∙ b.command));
  no_run_and_build = λ words n from name workers a b. differ (codes "run") (codes "build") refl (ap first_word (sym a.command ∙ b.command));
  no_check_and_build = λ words name built workers a b. differ (codes "check") (codes "build") refl (ap first_word (sym a.command ∙ b.command));
  no_load_and_build = λ words load name workers a b. differ (codes "gen") (codes "build") refl (ap first_word (sym a.command ∙ b.command));
  no_run_and_standby = λ words n from lag limit a b. differ (codes "run") (codes "standby") refl (ap first_word (sym a.command ∙ b.command));
  no_check_and_standby = λ words name lag limit a b. differ (codes "check") (codes "standby") refl (ap first_word (sym a.command ∙ b.command));
  no_load_and_standby = λ words load lag limit a b. differ (codes "gen") (codes "standby") refl (ap first_word (sym a.command ∙ b.command));
  no_build_and_standby = λ words name workers lag limit a b. differ (codes "build") (codes "standby") refl (ap first_word (sym a.command ∙ b.command));
}
