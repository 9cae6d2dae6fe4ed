use Rattle.std.proofs.Common.{length, ◌∙◌}
use Rattle.spg_commands.proofs.Acting.{Spans}
use Rattle.spg_perform.proofs.LeadingSave.{save_acts}
use Rattle.spg_perform.proofs.command.saved.Goals as goal

pub returns-clause-acts : goal.returns-clause-acts
returns-clause-acts g c =
    let spans : Spans c.recorded.result c.save-outcome.result (length c.args.state.now.journal) (length c.args.state.now.journal) =
    record { outcome_is = c.recorded.ensures.outcome; from_is = c.recorded.ensures.from ∙ c.position-from.ensures.count; to_is = c.recorded.ensures.to } in
    save_acts g.O.OpClass.meaning g.O.Spoken.speech g.O.OpClass.code_number c.args.state.now c.args.seat c.args.name.now c.recorded.result (g.M.Images.held c.args.images.now) (g.M.Images.held c.save-outcome.new.images) c.requires.free c.save-outcome.result c.save-outcome.ensures.saved spans
