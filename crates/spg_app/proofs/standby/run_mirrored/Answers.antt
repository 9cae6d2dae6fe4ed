use Rattle.std.proofs.Common.{refl, sym, ap, ◌∙◌, subst}
use Rattle.spg_histories.specs.Ending.{status_after}
use Rattle.spg_app.specs.Ending.{writing_of}
use Rattle.spg_app.proofs.Outcomes.{wrote_as, cause_of, fits_as, text_same}
use Rattle.spg_perform.specs.Session.{IsOfClass}
use Rattle.spg_app.proofs.Standbys.{mirrored_ends}
use Rattle.spg_app.proofs.standby.run_mirrored.Goals as goal

pub perform_on-done-requires-clause-of_class : goal.perform_on-done-requires-clause-of_class
perform_on-done-requires-clause-of_class g c κs within = subst (IsOfClass g.O.Spoken.speech) (sym c.requires.of_class) (g.met.O.Ended g.world.𝓛 g.world.𝓜 g.world.𝓡 ((λ s x. x), (λ x. x), (λ x. x), λ x. x)).is_class.known

pub returns : goal.returns
returns g c = mirrored_ends _ _ _ _ _ _ _ c.ended.ensures ((g.met.O.Ended g.world.𝓛 g.world.𝓜 g.world.𝓡 ((λ s x. x), (λ x. x), (λ x. x), λ x. x)).is_class.mirrored _ _ c.args.sequence.now _ _ c.in-Ok.state c.requires.of_class (record {
  records = c.in-Ok.records;
  mirrored = c.in-Ok.ensures;
  writing = writing_of c.write_text-written.result;
  wrote = wrote_as c.write_text-written.result _ _ _ _ (text_same g.O.Spoken.speech _ _ _ _ (c.as_slice-events.ensures ∙ c.journal.ensures.events) c.as_slice.ensures) c.write_text-written.ensures.ok c.write_text-written.ensures.err;
  fits = fits_as c.write_text-written.result _ _ _ _ (c.as_slice-events.ensures ∙ c.journal.ensures.events) c.as_slice.ensures c.write_text-written.ensures.fits;
  cause = cause_of c.write_text-written.result _ _ c.write_text-written.ensures.cause;
  status_is = c.status_after-status.ensures ∙ ap (λ rs. status_after (writing_of c.write_text-written.result) rs) c.as_slice-2.ensures;
}))
