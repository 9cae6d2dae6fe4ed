use Rattle.std.proofs.Common.{inl, length, refl, sym, ap, ◌∙◌}
use Rattle.spg_report.specs.declared.outcome.Outcome.TheVariants as outcome
use Rattle.spg_script.specs.declared.command.Command.TheVariants.{Insert}
use Rattle.spg_commands.specs.Outcomes.{insert_outcome}
use Rattle.spg_commands.proofs.Acting.{Spans, rests}
use Rattle.spg_commands.proofs.Commands.{inserted}
use Rattle.spg_perform.proofs.insert.insert.Goals as goal

pub returns-in-Err : goal.returns-in-Err
returns-in-Err g c =
    let spans : Spans c.recorded.result outcome.Memory (length c.args.state.now.journal) (length c.args.state.now.journal) =
    record { outcome_is = c.recorded.ensures.outcome; from_is = c.recorded.ensures.from ∙ c.position-from.ensures.count; to_is = c.recorded.ensures.to } in
    λ alone. rests g.O.OpClass.meaning g.O.Spoken.speech c.args.state.now c.args.state.now c.args.seat alone (Insert c.args.row c.args.key.now) outcome.Memory c.recorded.result spans refl c.none_open.ensures (λ block. inl refl) tt tt (λ q. tt) tt tt

pub returns : goal.returns
returns g c =
    let spans : Spans c.recorded-2.result (insert_outcome c.insert-inserted.result) (length c.args.state.now.journal) (length c.insert-inserted.new.state.journal) =
    record { outcome_is = c.recorded-2.ensures.outcome ∙ c.insert_outcome.ensures; from_is = c.recorded-2.ensures.from ∙ c.position-from.ensures.count; to_is = c.recorded-2.ensures.to } in
    λ alone. inserted g.O.OpClass.meaning g.O.Spoken.speech c.args.state.now c.insert-inserted.new.state c.args.seat alone c.none_open.ensures c.none_open-2.ensures c.recorded-2.ensures.right c.args.row c.args.key.now c.in-Ok-Some.found (sym c.in-Ok-Some.ensures ∙ c.in-Ok-Some.field-0-is)
    (c.origin-limit.ensures.limit ∙ ap (λ o. o.limit) c.origin-limit.ensures.value) c.recorded-2.result c.insert-inserted.result c.insert-inserted.ensures.ok c.insert-inserted.ensures.err spans
