use Rattle.spg_seats.proofs.Holding.{latches_law}
use Rattle.spg_seats.proofs.latch_laws.Goals as goal

pub returns : goal.returns
returns g c = latches_law _ _ _ _
