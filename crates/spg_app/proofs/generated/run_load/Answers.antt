use Rattle.std.proofs.Common.{[], sym, ap, ◌∙◌, subst}
use Rattle.spg_histories.specs.Ending.{status_after}
use Rattle.spg_app.specs.Ending.{writing_of}
use Rattle.spg_app.proofs.Outcomes.{wrote_as, cause_of, of_origin}
use Rattle.spg_perform.specs.Session.{IsOfClass}
use Rattle.spg_app.proofs.LoadEnds.{summary_same, loaded_ends}
use Rattle.spg_app.proofs.Bounded.{late_of}
use Rattle.spg_app.proofs.generated.run_load.Goals as goal

pub perform-requires-clause-of_class : goal.perform-requires-clause-of_class
perform-requires-clause-of_class g c κs within = subst (IsOfClass g.O.Spoken.speech) (sym c.requires) (g.met.O.Ended g.world.𝓛 g.world.𝓜 g.world.𝓡 ((λ s x. x), (λ x. x), (λ x. x), λ x. x)).is_class.known

pub returns-in-Ok-perform : goal.returns-in-Ok-perform
returns-in-Ok-perform g c =
    let done = c.in-Ok-perform.ensures.ok [] c.in-Ok.ensures.new.journal in
    loaded_ends _ _ _ _ _ c.ended.ensures ((g.met.O.Ended g.world.𝓛 g.world.𝓜 g.world.𝓡 ((λ s x. x), (λ x. x), (λ x. x), λ x. x)).is_class.loaded c.args.script.now _ _ c.in-Ok-perform.state c.requires (record {
      records = c.in-Ok-perform.records;
      session = of_origin g.O.Spoken.speech _ _ _ _ _ _ _ _ _ c.in-Ok.ensures.new.origin done;
      writing = writing_of c.write_summary-written.result;
      wrote = wrote_as c.write_summary-written.result _ _ _ _ (summary_same _ _ _ _ (c.as_slice-events.ensures ∙ c.journal.ensures.events) c.as_slice.ensures) c.write_summary-written.ensures.ok c.write_summary-written.ensures.err;
      cause = cause_of c.write_summary-written.result _ _ c.write_summary-written.ensures.cause;
      status_is = c.status_after-status.ensures ∙ ap (λ rs. status_after (writing_of c.write_summary-written.result) rs) c.as_slice-in-Ok-perform.ensures;
      late = late_of g.O.OpClass.meaning _ c.journal.ensures.whole;
    }))
