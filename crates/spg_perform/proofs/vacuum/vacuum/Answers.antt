use Rattle.std.proofs.Common.{length, ◌∙◌}
use Rattle.spg_commands.specs.Outcomes.{vacuum_outcome}
use Rattle.spg_commands.proofs.Acting.{Spans}
use Rattle.spg_commands.proofs.Commands.{vacuumed}
use Rattle.spg_perform.proofs.vacuum.vacuum.Goals as goal

pub returns : goal.returns
returns g c =
    let spans : Spans c.recorded.result (vacuum_outcome c.vacuum-swept.result) (length c.args.state.now.journal) (length c.vacuum-swept.new.state.journal) =
    record { outcome_is = c.recorded.ensures.outcome ∙ c.vacuum_outcome.ensures; from_is = c.recorded.ensures.from ∙ c.position-from.ensures.count; to_is = c.recorded.ensures.to } in
    λ alone. vacuumed g.O.OpClass.meaning g.O.Spoken.speech c.args.state.now c.vacuum-swept.new.state c.args.seat alone c.none_open.ensures c.none_open-2.ensures c.recorded.ensures.right c.requires.closed c.recorded.result c.vacuum-swept.result c.vacuum-swept.ensures.ok c.vacuum-swept.ensures.err spans
