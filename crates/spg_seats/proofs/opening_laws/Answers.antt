use Rattle.spg_seats.proofs.Beginning.{new_kept}
use Rattle.spg_seats.proofs.SmallVacuum.{vacuum_kept}
use Rattle.spg_seats.proofs.opening_laws.Goals as goal

pub returns : goal.returns
returns g c = record { new = new_kept g.O.OpClass.meaning; vacuum = vacuum_kept g.O.OpClass.meaning }
