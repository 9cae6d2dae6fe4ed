use Rattle.spg_calls.proofs.Calls.{calls_add}
use Rattle.spg_calls.proofs.laws.call_laws.Goals as goal

pub returns : goal.returns
returns g c = calls_add _ _ _ _
