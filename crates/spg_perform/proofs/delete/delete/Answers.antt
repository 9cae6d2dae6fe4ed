use Rattle.std.proofs.Common.{length, ◌∙◌}
use Rattle.spg_commands.specs.Outcomes.{delete_outcome}
use Rattle.spg_commands.proofs.Acting.{Spans}
use Rattle.spg_commands.proofs.Commands.{deleted}
use Rattle.spg_perform.proofs.delete.delete.Goals as goal

pub returns : goal.returns
returns g c =
    let spans : Spans c.recorded.result (delete_outcome c.delete-deleted.result) (length c.args.state.now.journal) (length c.delete-deleted.new.state.journal) =
    record { outcome_is = c.recorded.ensures.outcome ∙ c.delete_outcome.ensures; from_is = c.recorded.ensures.from ∙ c.position-from.ensures.count; to_is = c.recorded.ensures.to } in
    λ alone. deleted g.O.OpClass.meaning g.O.Spoken.speech c.args.state.now c.delete-deleted.new.state c.args.seat alone c.none_open.ensures c.none_open-2.ensures c.recorded.ensures.right c.args.row c.recorded.result c.delete-deleted.result c.delete-deleted.ensures.ok c.delete-deleted.ensures.err spans
