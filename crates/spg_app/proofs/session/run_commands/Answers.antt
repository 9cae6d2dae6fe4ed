use Rattle.std.proofs.Common.{◌≡◌, refl, sym, ap, ◌∙◌, subst}
use Rattle.spg_histories.specs.Ending.{status_after}
use Rattle.spg_words.specs.Reading.{word_in}
use Rattle.spg_app.specs.Beginning.{outside, IsLeft}
use Rattle.spg_app.specs.Ending.{writing_of}
use Rattle.spg_app.proofs.Bounded.{late_records, sure_records}
use Rattle.spg_app.proofs.Begins.{left_read, memory_unbegun, unbegun_as}
use Rattle.spg_app.proofs.Earlier.{from_earlier}
use Rattle.spg_app.proofs.Outcomes.{wrote_as, cause_of, unfailed_of, fits_as, text_same}
use Rattle.spg_perform.specs.Session.{IsOfClass}
use Rattle.spg_app.proofs.RunEnds.{ran_ends, unbegun_ends}
use Rattle.spg_app.proofs.session.run_commands.Goals as goal

pub perform-requires-clause-of_class : goal.perform-requires-clause-of_class
perform-requires-clause-of_class g c κs within = subst (IsOfClass g.O.Spoken.speech) (sym c.requires.of_class) (g.met.O.Ended g.world.𝓛 g.world.𝓜 g.world.𝓡 ((λ s x. x), (λ x. x), (λ x. x), λ x. x)).is_class.known

pub returns-in-Err : goal.returns-in-Err
returns-in-Err g c =
    unbegun_ends _ _ c.args.script.now _ _ g.O.Ended.line c.requires.of_class
    ((g.met.O.Ended g.world.𝓛 g.world.𝓜 g.world.𝓡 ((λ s x. x), (λ x. x), (λ x. x), λ x. x)).is_class.unbegun c.args.line.limit (word_in c.args.line.from) (outside (g.M.Images.held c.args.images.now) (g.M.Images.faults c.args.images.now)) (outside (g.M.Images.held c.begin.new.images) (g.M.Images.faults c.begin.new.images)) c.status_of.result (unbegun_as _ _ _ _ _ _ c.in-Err.refused _ c.status_of.ensures c.in-Err.ensures.refused))
    (record { sink = refl; images = c.in-Err.ensures.left })

pub returns : goal.returns
returns g c =
    let left = subst (λ i. IsLeft (word_in c.args.line.from) (outside (g.M.Images.held c.args.images.now) (g.M.Images.faults c.args.images.now)) (outside (g.M.Images.held i) (g.M.Images.faults i))) (sym c.in-Err-perform.ensures.err.1) c.in-Ok.ensures.left in
    let same = subst (λ i. g.M.Images.faults i ≡ g.M.Images.faults c.args.images.now) (sym c.in-Err-perform.ensures.err.1) c.in-Ok.ensures.unfailed in
    unbegun_ends _ _ c.args.script.now _ _ g.O.Ended.line c.requires.of_class (memory_unbegun _ _ _ _ _ _ same) (record { sink = refl; images = left })

pub returns-in-Ok-perform : goal.returns-in-Ok-perform
returns-in-Ok-perform g c =
    let begun = c.in-Ok.ensures.state in
    let done = c.in-Ok-perform.ensures.ok begun.loaded begun.journal in
    ran_ends _ _ _ _ _ _ _ c.ended.ensures ((g.met.O.Ended g.world.𝓛 g.world.𝓜 g.world.𝓡 ((λ s x. x), (λ x. x), (λ x. x), λ x. x)).is_class.ran _ _ c.args.script.now _ _ c.in-Ok-perform.state c.requires.of_class (record {
      loaded = begun.loaded;
      origin = c.in-Ok.state.origin;
      begun = begun.begins;
      records = c.in-Ok-perform.records;
      session = from_earlier _ _ g.O.Spoken.speech _ begun.loaded _ _ _ _ _ _ _ (left_read _ _ _ c.in-Ok.ensures.left) c.in-Ok.ensures.unfailed done;
      writing = writing_of c.write_text-written.result;
      wrote = wrote_as c.write_text-written.result _ _ _ _ (text_same g.O.Spoken.speech _ _ _ _ (c.as_slice-events.ensures ∙ c.journal.ensures.events) c.as_slice.ensures) c.write_text-written.ensures.ok c.write_text-written.ensures.err;
      fits = fits_as c.write_text-written.result _ _ _ _ (c.as_slice-events.ensures ∙ c.journal.ensures.events) c.as_slice.ensures c.write_text-written.ensures.fits;
      cause = cause_of c.write_text-written.result _ _ c.write_text-written.ensures.cause;
      unfailed = unfailed_of c.write_text-written.result _ _ c.write_text-written.ensures.answered;
      status_is = c.status_after-status.ensures ∙ ap (λ rs. status_after (writing_of c.write_text-written.result) rs) c.as_slice-in-Ok-perform.ensures;
      late = late_records _ _ _ _ _ _ _ _ _ _ c.journal.ensures.whole done;
      sure = sure_records _ _ _ _ _ _ _ _ _ _ c.journal.ensures.whole done;
    }))
