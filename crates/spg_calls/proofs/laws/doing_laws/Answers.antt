use Rattle.spg_calls.proofs.Doing.{doing_tells, sweeps_tell}
use Rattle.spg_calls.proofs.laws.doing_laws.Goals as goal

pub returns-clause-doing : goal.returns-clause-doing
returns-clause-doing g c = doing_tells _ _ _ _

pub returns-clause-swept : goal.returns-clause-swept
returns-clause-swept g c = sweeps_tell _ _ _ _
