use Rattle.std.proofs.Common.{true, inl, length, refl, sym, ◌∙◌}
use Rattle.spg_report.specs.declared.outcome.Outcome.TheVariants as outcome
use Rattle.spg_script.specs.declared.command.Command.TheVariants.{Find}
use Rattle.spg_commands.specs.Outcomes.{find_outcome}
use Rattle.spg_commands.proofs.Acting.{Spans, rests}
use Rattle.spg_commands.proofs.Commands.{found}
use Rattle.spg_perform.proofs.find.find.Goals as goal

pub returns-in-Err : goal.returns-in-Err
returns-in-Err g c =
    let spans : Spans c.recorded.result outcome.Memory (length c.args.state.now.journal) (length c.args.state.now.journal) =
    record { outcome_is = c.recorded.ensures.outcome; from_is = c.recorded.ensures.from ∙ c.position-from.ensures.count; to_is = c.recorded.ensures.to } in
    rests g.O.OpClass.meaning g.O.Spoken.speech c.args.state.now c.args.state.now c.args.seat true (Find c.args.query.now) outcome.Memory c.recorded.result spans refl c.none_open.ensures (λ block. inl refl) tt tt (λ q. tt) tt tt

pub returns : goal.returns
returns g c =
    let spans : Spans c.recorded-2.result (find_outcome c.find-found.result) (length c.args.state.now.journal) (length c.find-found.new.state.journal) =
    record { outcome_is = c.recorded-2.ensures.outcome ∙ c.find_outcome.ensures; from_is = c.recorded-2.ensures.from ∙ c.position-from.ensures.count; to_is = c.recorded-2.ensures.to } in
    found g.O.OpClass.meaning g.O.Spoken.speech c.args.state.now c.find-found.new.state c.args.seat c.none_open.ensures c.none_open-2.ensures c.recorded-2.ensures.right c.args.query.now c.in-Ok-Some.query (sym c.in-Ok-Some.ensures ∙ c.in-Ok-Some.field-0-is) c.recorded-2.result c.find-found.result
    c.find-found.ensures.ok c.find-found.ensures.err spans
