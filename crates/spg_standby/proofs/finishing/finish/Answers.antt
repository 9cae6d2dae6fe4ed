use Rattle.std.proofs.Common.{◌∙◌}
use Rattle.spg_standby.proofs.finishing.finish.Goals as goal

pub returns-clause-ended : goal.returns-clause-ended
returns-clause-ended g c = c.end.ensures.value ∙ c.gather-out.ensures.rest
