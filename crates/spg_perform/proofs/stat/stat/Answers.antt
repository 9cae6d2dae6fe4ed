use Rattle.std.proofs.Common.{length, ◌∙◌}
use Rattle.spg_report.specs.declared.outcome.Outcome.TheVariants as outcome
use Rattle.spg_commands.proofs.Acting.{Spans}
use Rattle.spg_perform.proofs.Counting.{counted}
use Rattle.spg_perform.proofs.stat.stat.Goals as goal

pub returns-clause-acts : goal.returns-clause-acts
returns-clause-acts g c =
    let spans : Spans c.recorded.result (outcome.Stat c.stat-counts.result) (length c.args.state.now.journal) (length c.args.state.now.journal) =
    record { outcome_is = c.recorded.ensures.outcome; from_is = c.recorded.ensures.from ∙ c.position-from.ensures.count; to_is = c.recorded.ensures.to } in
    λ alone. counted g.O.OpClass.meaning g.O.Spoken.speech c.args.state.now c.args.seat alone c.recorded.result c.stat-counts.result c.position-from.ensures.right c.pages.ensures.represents c.stat-counts.ensures c.requires.free spans

pub returns-clause-counts : goal.returns-clause-counts
returns-clause-counts g c = rw c.recorded.ensures.outcome tt
