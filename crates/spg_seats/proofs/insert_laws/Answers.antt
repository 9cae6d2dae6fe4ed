use Rattle.spg_seats.proofs.Descending.{insert_stays}
use Rattle.spg_seats.proofs.insert_laws.Goals as goal

pub returns : goal.returns
returns g c = insert_stays g.O.OpClass.meaning
