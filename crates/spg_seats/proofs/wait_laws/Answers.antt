use Rattle.spg_seats.proofs.Waiting.{waits_tell}
use Rattle.spg_seats.proofs.wait_laws.Goals as goal

pub returns : goal.returns
returns g c = waits_tell _ _ _ _ g.O.OpClass.meaning
