use Rattle.std.proofs.Common.{inl, inr, refl}
use Rattle.spg_words.proofs.Exact.{exact}
use Rattle.spg_app.proofs.Complete.{complete, refused}
use Rattle.spg_app.proofs.Refused.{no_image, check_complete, check_refused}
use Rattle.spg_app.proofs.LoadEnds.{complete_load}
use Rattle.spg_app.proofs.Builds.{build_complete, build_refused}
use Rattle.spg_app.proofs.Standbys.{standby_complete, standby_refused}
use Rattle.spg_app.proofs.Lines.{none_of, run_line, no_run_line, check_line, no_check_line, load_line, no_load_line, build_line, no_build_line, standby_line, no_standby_line, run_asked, check_asked, build_asked, standby_asked}
use Rattle.spg_app.proofs.program.run.Goals as goal

-- ---- the words of a run

pub returns-in-Some-clause-answer : goal.returns-in-Some-clause-answer
returns-in-Some-clause-answer g c = inl (inl (inr (_, _, run_line _ _ _ c.run_of.ensures.value c.in-Some.is, c.run_script.ensures)))

pub returns-in-Some-clause-complete : goal.returns-in-Some-clause-complete
returns-in-Some-clause-complete g c = λ limit from words holds no_fault. complete limit from _ _ _ _ (run_asked _ _ limit _ from _ _ _ _ (run_line _ _ _ c.run_of.ensures.value c.in-Some.is) words c.run_script.ensures) holds no_fault

pub returns-in-Some-clause-no_script : goal.returns-in-Some-clause-no_script
returns-in-Some-clause-no_script g c = λ limit from words n holds no_fault. refused limit from _ _ _ _ (run_asked _ _ limit _ from _ _ _ _ (run_line _ _ _ c.run_of.ensures.value c.in-Some.is) words c.run_script.ensures) n holds no_fault

pub returns-in-Some-clause-no_image : goal.returns-in-Some-clause-no_image
returns-in-Some-clause-no_image g c = λ limit name words fault holds no_fault. no_image limit name _ _ _ _ (run_asked _ _ limit _ _ _ _ _ _ (run_line _ _ _ c.run_of.ensures.value c.in-Some.is) words c.run_script.ensures) fault holds no_fault

pub returns-in-Some-clause-complete_load : goal.returns-in-Some-clause-complete_load
returns-in-Some-clause-complete_load g c = λ load asked no_fault. absurd (exact.no_run_and_load _ _ _ load (run_line _ _ _ c.run_of.ensures.value c.in-Some.is) asked)

pub returns-in-Some-clause-complete_check : goal.returns-in-Some-clause-complete_check
returns-in-Some-clause-complete_check g c = λ name asked holds no_fault. absurd (exact.no_run_and_check _ _ _ name (run_line _ _ _ c.run_of.ensures.value c.in-Some.is) asked)

pub returns-in-Some-clause-refused_check : goal.returns-in-Some-clause-refused_check
returns-in-Some-clause-refused_check g c = λ name asked fault holds no_fault. absurd (exact.no_run_and_check _ _ _ name (run_line _ _ _ c.run_of.ensures.value c.in-Some.is) asked)

pub returns-in-Some-clause-complete_build : goal.returns-in-Some-clause-complete_build
returns-in-Some-clause-complete_build g c = λ name workers asked holds no_fault. absurd (exact.no_run_and_build _ _ _ name workers (run_line _ _ _ c.run_of.ensures.value c.in-Some.is) asked)

pub returns-in-Some-clause-no_inserts : goal.returns-in-Some-clause-no_inserts
returns-in-Some-clause-no_inserts g c = λ name workers asked n holds no_fault. absurd (exact.no_run_and_build _ _ _ name workers (run_line _ _ _ c.run_of.ensures.value c.in-Some.is) asked)

pub returns-in-Some-clause-complete_standby : goal.returns-in-Some-clause-complete_standby
returns-in-Some-clause-complete_standby g c = λ lag limit asked holds no_fault. absurd (exact.no_run_and_standby _ _ _ lag limit (run_line _ _ _ c.run_of.ensures.value c.in-Some.is) asked)

pub returns-in-Some-clause-no_sequence : goal.returns-in-Some-clause-no_sequence
returns-in-Some-clause-no_sequence g c = λ lag limit asked n holds no_fault. absurd (exact.no_run_and_standby _ _ _ lag limit (run_line _ _ _ c.run_of.ensures.value c.in-Some.is) asked)

-- ---- the words of a check

pub returns-in-Some-check_of-clause-answer : goal.returns-in-Some-check_of-clause-answer
returns-in-Some-check_of-clause-answer g c = inl (inr (inr record {
  name = c.in-Some-check_of.name.now;
  asked = check_line _ _ _ c.check_of.ensures c.in-Some-check_of.is;
  none = refl;
  unread = (refl, refl);
  checked = c.check_image.ensures;
}))

pub returns-in-Some-check_of-clause-complete : goal.returns-in-Some-check_of-clause-complete
returns-in-Some-check_of-clause-complete g c = λ limit from words holds no_fault. absurd (exact.no_run_and_check _ limit from _ words (check_line _ _ _ c.check_of.ensures c.in-Some-check_of.is))

pub returns-in-Some-check_of-clause-no_script : goal.returns-in-Some-check_of-clause-no_script
returns-in-Some-check_of-clause-no_script g c = λ limit from words n holds no_fault. absurd (exact.no_run_and_check _ limit from _ words (check_line _ _ _ c.check_of.ensures c.in-Some-check_of.is))

pub returns-in-Some-check_of-clause-no_image : goal.returns-in-Some-check_of-clause-no_image
returns-in-Some-check_of-clause-no_image g c = λ limit name words fault holds no_fault. absurd (exact.no_run_and_check _ limit _ _ words (check_line _ _ _ c.check_of.ensures c.in-Some-check_of.is))

pub returns-in-Some-check_of-clause-complete_load : goal.returns-in-Some-check_of-clause-complete_load
returns-in-Some-check_of-clause-complete_load g c = λ load asked no_fault. absurd (exact.no_check_and_load _ _ load (check_line _ _ _ c.check_of.ensures c.in-Some-check_of.is) asked)

pub returns-in-Some-check_of-clause-complete_check : goal.returns-in-Some-check_of-clause-complete_check
returns-in-Some-check_of-clause-complete_check g c = λ name asked holds no_fault. check_complete name _ _ _ (check_asked _ _ name _ _ (check_line _ _ _ c.check_of.ensures c.in-Some-check_of.is) asked c.check_image.ensures) holds no_fault

pub returns-in-Some-check_of-clause-refused_check : goal.returns-in-Some-check_of-clause-refused_check
returns-in-Some-check_of-clause-refused_check g c = λ name asked fault holds no_fault. check_refused name _ _ _ (check_asked _ _ name _ _ (check_line _ _ _ c.check_of.ensures c.in-Some-check_of.is) asked c.check_image.ensures) fault holds no_fault

pub returns-in-Some-check_of-clause-complete_build : goal.returns-in-Some-check_of-clause-complete_build
returns-in-Some-check_of-clause-complete_build g c = λ name workers asked holds no_fault. absurd (exact.no_check_and_build _ _ name workers (check_line _ _ _ c.check_of.ensures c.in-Some-check_of.is) asked)

pub returns-in-Some-check_of-clause-no_inserts : goal.returns-in-Some-check_of-clause-no_inserts
returns-in-Some-check_of-clause-no_inserts g c = λ name workers asked n holds no_fault. absurd (exact.no_check_and_build _ _ name workers (check_line _ _ _ c.check_of.ensures c.in-Some-check_of.is) asked)

pub returns-in-Some-check_of-clause-complete_standby : goal.returns-in-Some-check_of-clause-complete_standby
returns-in-Some-check_of-clause-complete_standby g c = λ lag limit asked holds no_fault. absurd (exact.no_check_and_standby _ _ lag limit (check_line _ _ _ c.check_of.ensures c.in-Some-check_of.is) asked)

pub returns-in-Some-check_of-clause-no_sequence : goal.returns-in-Some-check_of-clause-no_sequence
returns-in-Some-check_of-clause-no_sequence g c = λ lag limit asked n holds no_fault. absurd (exact.no_check_and_standby _ _ lag limit (check_line _ _ _ c.check_of.ensures c.in-Some-check_of.is) asked)

-- ---- the words of a build

pub returns-in-Some-build_of-clause-answer : goal.returns-in-Some-build_of-clause-answer
returns-in-Some-build_of-clause-answer g c = inr (inl record {
  name = c.in-Some-build_of.line.name.now;
  workers = c.in-Some-build_of.line.workers;
  asked = build_line _ _ _ c.build_of.ensures.value c.in-Some-build_of.is;
  none = refl;
  run = c.build_image.ensures;
})

pub returns-in-Some-build_of-clause-complete : goal.returns-in-Some-build_of-clause-complete
returns-in-Some-build_of-clause-complete g c = λ limit from words holds no_fault. absurd (exact.no_run_and_build _ limit from _ _ words (build_line _ _ _ c.build_of.ensures.value c.in-Some-build_of.is))

pub returns-in-Some-build_of-clause-no_script : goal.returns-in-Some-build_of-clause-no_script
returns-in-Some-build_of-clause-no_script g c = λ limit from words n holds no_fault. absurd (exact.no_run_and_build _ limit from _ _ words (build_line _ _ _ c.build_of.ensures.value c.in-Some-build_of.is))

pub returns-in-Some-build_of-clause-no_image : goal.returns-in-Some-build_of-clause-no_image
returns-in-Some-build_of-clause-no_image g c = λ limit name words fault holds no_fault. absurd (exact.no_run_and_build _ limit _ _ _ words (build_line _ _ _ c.build_of.ensures.value c.in-Some-build_of.is))

pub returns-in-Some-build_of-clause-complete_load : goal.returns-in-Some-build_of-clause-complete_load
returns-in-Some-build_of-clause-complete_load g c = λ load asked no_fault. absurd (exact.no_load_and_build _ load _ _ asked (build_line _ _ _ c.build_of.ensures.value c.in-Some-build_of.is))

pub returns-in-Some-build_of-clause-complete_check : goal.returns-in-Some-build_of-clause-complete_check
returns-in-Some-build_of-clause-complete_check g c = λ name asked holds no_fault. absurd (exact.no_check_and_build _ name _ _ asked (build_line _ _ _ c.build_of.ensures.value c.in-Some-build_of.is))

pub returns-in-Some-build_of-clause-refused_check : goal.returns-in-Some-build_of-clause-refused_check
returns-in-Some-build_of-clause-refused_check g c = λ name asked fault holds no_fault. absurd (exact.no_check_and_build _ name _ _ asked (build_line _ _ _ c.build_of.ensures.value c.in-Some-build_of.is))

pub returns-in-Some-build_of-clause-complete_build : goal.returns-in-Some-build_of-clause-complete_build
returns-in-Some-build_of-clause-complete_build g c = λ name workers asked holds no_fault. build_complete name _ _ _ _ _ _ (build_asked _ _ name _ workers _ _ _ _ _ _ (build_line _ _ _ c.build_of.ensures.value c.in-Some-build_of.is) asked c.build_image.ensures) holds no_fault.reading no_fault.writing no_fault.saving

pub returns-in-Some-build_of-clause-no_inserts : goal.returns-in-Some-build_of-clause-no_inserts
returns-in-Some-build_of-clause-no_inserts g c = λ name workers asked n holds no_fault. build_refused name _ _ _ _ _ _ (build_asked _ _ name _ workers _ _ _ _ _ _ (build_line _ _ _ c.build_of.ensures.value c.in-Some-build_of.is) asked c.build_image.ensures) n holds no_fault

pub returns-in-Some-build_of-clause-complete_standby : goal.returns-in-Some-build_of-clause-complete_standby
returns-in-Some-build_of-clause-complete_standby g c = λ lag limit asked holds no_fault. absurd (exact.no_build_and_standby _ _ _ lag limit (build_line _ _ _ c.build_of.ensures.value c.in-Some-build_of.is) asked)

pub returns-in-Some-build_of-clause-no_sequence : goal.returns-in-Some-build_of-clause-no_sequence
returns-in-Some-build_of-clause-no_sequence g c = λ lag limit asked n holds no_fault. absurd (exact.no_build_and_standby _ _ _ lag limit (build_line _ _ _ c.build_of.ensures.value c.in-Some-build_of.is) asked)

-- ---- the words of a standby

pub returns-in-Some-standby_of-clause-answer : goal.returns-in-Some-standby_of-clause-answer
returns-in-Some-standby_of-clause-answer g c = inr (inr record {
  lag = c.in-Some-standby_of.line.lag;
  limit = c.in-Some-standby_of.line.limit;
  asked = standby_line _ _ _ c.standby_of.ensures.value c.in-Some-standby_of.is;
  images = refl;
  run = c.run_standby.ensures;
})

pub returns-in-Some-standby_of-clause-complete : goal.returns-in-Some-standby_of-clause-complete
returns-in-Some-standby_of-clause-complete g c = λ limit from words holds no_fault. absurd (exact.no_run_and_standby _ limit from _ _ words (standby_line _ _ _ c.standby_of.ensures.value c.in-Some-standby_of.is))

pub returns-in-Some-standby_of-clause-no_script : goal.returns-in-Some-standby_of-clause-no_script
returns-in-Some-standby_of-clause-no_script g c = λ limit from words n holds no_fault. absurd (exact.no_run_and_standby _ limit from _ _ words (standby_line _ _ _ c.standby_of.ensures.value c.in-Some-standby_of.is))

pub returns-in-Some-standby_of-clause-no_image : goal.returns-in-Some-standby_of-clause-no_image
returns-in-Some-standby_of-clause-no_image g c = λ limit name words fault holds no_fault. absurd (exact.no_run_and_standby _ limit _ _ _ words (standby_line _ _ _ c.standby_of.ensures.value c.in-Some-standby_of.is))

pub returns-in-Some-standby_of-clause-complete_load : goal.returns-in-Some-standby_of-clause-complete_load
returns-in-Some-standby_of-clause-complete_load g c = λ load asked no_fault. absurd (exact.no_load_and_standby _ load _ _ asked (standby_line _ _ _ c.standby_of.ensures.value c.in-Some-standby_of.is))

pub returns-in-Some-standby_of-clause-complete_check : goal.returns-in-Some-standby_of-clause-complete_check
returns-in-Some-standby_of-clause-complete_check g c = λ name asked holds no_fault. absurd (exact.no_check_and_standby _ name _ _ asked (standby_line _ _ _ c.standby_of.ensures.value c.in-Some-standby_of.is))

pub returns-in-Some-standby_of-clause-refused_check : goal.returns-in-Some-standby_of-clause-refused_check
returns-in-Some-standby_of-clause-refused_check g c = λ name asked fault holds no_fault. absurd (exact.no_check_and_standby _ name _ _ asked (standby_line _ _ _ c.standby_of.ensures.value c.in-Some-standby_of.is))

pub returns-in-Some-standby_of-clause-complete_build : goal.returns-in-Some-standby_of-clause-complete_build
returns-in-Some-standby_of-clause-complete_build g c = λ name workers asked holds no_fault. absurd (exact.no_build_and_standby _ name workers _ _ asked (standby_line _ _ _ c.standby_of.ensures.value c.in-Some-standby_of.is))

pub returns-in-Some-standby_of-clause-no_inserts : goal.returns-in-Some-standby_of-clause-no_inserts
returns-in-Some-standby_of-clause-no_inserts g c = λ name workers asked n holds no_fault. absurd (exact.no_build_and_standby _ name workers _ _ asked (standby_line _ _ _ c.standby_of.ensures.value c.in-Some-standby_of.is))

pub returns-in-Some-standby_of-clause-complete_standby : goal.returns-in-Some-standby_of-clause-complete_standby
returns-in-Some-standby_of-clause-complete_standby g c = λ lag limit asked holds no_fault. standby_complete lag limit _ _ _ _ _ _ _ (standby_asked _ _ lag _ limit _ _ _ _ _ _ _ (standby_line _ _ _ c.standby_of.ensures.value c.in-Some-standby_of.is) asked c.run_standby.ensures) holds no_fault.reading no_fault.writing

pub returns-in-Some-standby_of-clause-no_sequence : goal.returns-in-Some-standby_of-clause-no_sequence
returns-in-Some-standby_of-clause-no_sequence g c = λ lag limit asked n holds no_fault. standby_refused lag limit _ _ _ _ _ _ _ (standby_asked _ _ lag _ limit _ _ _ _ _ _ _ (standby_line _ _ _ c.standby_of.ensures.value c.in-Some-standby_of.is) asked c.run_standby.ensures) n holds no_fault

-- ---- the words of a load

pub returns-in-Some-load_of-clause-answer : goal.returns-in-Some-load_of-clause-answer
returns-in-Some-load_of-clause-answer g c = inl (inr (inl record {
  load = c.in-Some-load_of.load;
  asked = load_line _ _ _ c.load_of.ensures.value c.in-Some-load_of.is;
  unread = (refl, refl);
  run = c.run_generated.ensures;
}))

pub returns-in-Some-load_of-clause-complete : goal.returns-in-Some-load_of-clause-complete
returns-in-Some-load_of-clause-complete g c = λ limit from words holds no_fault. absurd (exact.no_run_and_load _ limit from _ words (load_line _ _ _ c.load_of.ensures.value c.in-Some-load_of.is))

pub returns-in-Some-load_of-clause-no_script : goal.returns-in-Some-load_of-clause-no_script
returns-in-Some-load_of-clause-no_script g c = λ limit from words n holds no_fault. absurd (exact.no_run_and_load _ limit from _ words (load_line _ _ _ c.load_of.ensures.value c.in-Some-load_of.is))

pub returns-in-Some-load_of-clause-no_image : goal.returns-in-Some-load_of-clause-no_image
returns-in-Some-load_of-clause-no_image g c = λ limit name words fault holds no_fault. absurd (exact.no_run_and_load _ limit _ _ words (load_line _ _ _ c.load_of.ensures.value c.in-Some-load_of.is))

pub returns-in-Some-load_of-clause-complete_load : goal.returns-in-Some-load_of-clause-complete_load
returns-in-Some-load_of-clause-complete_load g c = λ load asked no_fault. complete_load _ _ _ c.run_generated.result.0 c.run_generated.result.1 c.run_generated.ensures no_fault

pub returns-in-Some-load_of-clause-complete_check : goal.returns-in-Some-load_of-clause-complete_check
returns-in-Some-load_of-clause-complete_check g c = λ name asked holds no_fault. absurd (exact.no_check_and_load _ name _ asked (load_line _ _ _ c.load_of.ensures.value c.in-Some-load_of.is))

pub returns-in-Some-load_of-clause-refused_check : goal.returns-in-Some-load_of-clause-refused_check
returns-in-Some-load_of-clause-refused_check g c = λ name asked fault holds no_fault. absurd (exact.no_check_and_load _ name _ asked (load_line _ _ _ c.load_of.ensures.value c.in-Some-load_of.is))

pub returns-in-Some-load_of-clause-complete_build : goal.returns-in-Some-load_of-clause-complete_build
returns-in-Some-load_of-clause-complete_build g c = λ name workers asked holds no_fault. absurd (exact.no_load_and_build _ _ name workers (load_line _ _ _ c.load_of.ensures.value c.in-Some-load_of.is) asked)

pub returns-in-Some-load_of-clause-no_inserts : goal.returns-in-Some-load_of-clause-no_inserts
returns-in-Some-load_of-clause-no_inserts g c = λ name workers asked n holds no_fault. absurd (exact.no_load_and_build _ _ name workers (load_line _ _ _ c.load_of.ensures.value c.in-Some-load_of.is) asked)

pub returns-in-Some-load_of-clause-complete_standby : goal.returns-in-Some-load_of-clause-complete_standby
returns-in-Some-load_of-clause-complete_standby g c = λ lag limit asked holds no_fault. absurd (exact.no_load_and_standby _ _ lag limit (load_line _ _ _ c.load_of.ensures.value c.in-Some-load_of.is) asked)

pub returns-in-Some-load_of-clause-no_sequence : goal.returns-in-Some-load_of-clause-no_sequence
returns-in-Some-load_of-clause-no_sequence g c = λ lag limit asked n holds no_fault. absurd (exact.no_load_and_standby _ _ lag limit (load_line _ _ _ c.load_of.ensures.value c.in-Some-load_of.is) asked)

-- ---- other words

pub returns-in-None-clause-answer : goal.returns-in-None-clause-answer
returns-in-None-clause-answer g c = inl (inl (inl record {
  status_is = refl;
  none = refl;
  no_run = no_run_line _ _ c.run_of.ensures.value (none_of c.run_of.result c.in_default.not-Some);
  no_check = no_check_line _ _ c.check_of.ensures (none_of c.check_of.result c.in_default-check_of.not-Some);
  no_load = no_load_line _ _ c.load_of.ensures.value c.in-None.is;
  no_build = no_build_line _ _ c.build_of.ensures.value (none_of c.build_of.result c.in_default-build_of.not-Some);
  no_standby = no_standby_line _ _ c.standby_of.ensures.value (none_of c.standby_of.result c.in_default-standby_of.not-Some);
  unread = (refl, refl);
  left_alone = record { sink = refl; images = refl };
}))

pub returns-in-None-clause-complete : goal.returns-in-None-clause-complete
returns-in-None-clause-complete g c = λ limit from words holds no_fault. absurd (no_run_line _ _ c.run_of.ensures.value (none_of c.run_of.result c.in_default.not-Some) limit from words)

pub returns-in-None-clause-no_script : goal.returns-in-None-clause-no_script
returns-in-None-clause-no_script g c = λ limit from words n holds no_fault. absurd (no_run_line _ _ c.run_of.ensures.value (none_of c.run_of.result c.in_default.not-Some) limit from words)

pub returns-in-None-clause-no_image : goal.returns-in-None-clause-no_image
returns-in-None-clause-no_image g c = λ limit name words fault holds no_fault. absurd (no_run_line _ _ c.run_of.ensures.value (none_of c.run_of.result c.in_default.not-Some) limit _ words)

pub returns-in-None-clause-complete_load : goal.returns-in-None-clause-complete_load
returns-in-None-clause-complete_load g c = λ load asked no_fault. absurd (no_load_line _ _ c.load_of.ensures.value c.in-None.is load asked)

pub returns-in-None-clause-complete_check : goal.returns-in-None-clause-complete_check
returns-in-None-clause-complete_check g c = λ name asked holds no_fault. absurd (no_check_line _ _ c.check_of.ensures (none_of c.check_of.result c.in_default-check_of.not-Some) name asked)

pub returns-in-None-clause-refused_check : goal.returns-in-None-clause-refused_check
returns-in-None-clause-refused_check g c = λ name asked fault holds no_fault. absurd (no_check_line _ _ c.check_of.ensures (none_of c.check_of.result c.in_default-check_of.not-Some) name asked)

pub returns-in-None-clause-complete_build : goal.returns-in-None-clause-complete_build
returns-in-None-clause-complete_build g c = λ name workers asked holds no_fault. absurd (no_build_line _ _ c.build_of.ensures.value (none_of c.build_of.result c.in_default-build_of.not-Some) name workers asked)

pub returns-in-None-clause-no_inserts : goal.returns-in-None-clause-no_inserts
returns-in-None-clause-no_inserts g c = λ name workers asked n holds no_fault. absurd (no_build_line _ _ c.build_of.ensures.value (none_of c.build_of.result c.in_default-build_of.not-Some) name workers asked)

pub returns-in-None-clause-complete_standby : goal.returns-in-None-clause-complete_standby
returns-in-None-clause-complete_standby g c = λ lag limit asked holds no_fault. absurd (no_standby_line _ _ c.standby_of.ensures.value (none_of c.standby_of.result c.in_default-standby_of.not-Some) lag limit asked)

pub returns-in-None-clause-no_sequence : goal.returns-in-None-clause-no_sequence
returns-in-None-clause-no_sequence g c = λ lag limit asked n holds no_fault. absurd (no_standby_line _ _ c.standby_of.ensures.value (none_of c.standby_of.result c.in_default-standby_of.not-Some) lag limit asked)
