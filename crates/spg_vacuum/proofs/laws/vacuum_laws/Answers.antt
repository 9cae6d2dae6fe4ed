use Rattle.spg_vacuum.proofs.OtherSeats.{opens_vacuum, adds_keep, leaves_keep}
use Rattle.spg_vacuum.proofs.laws.vacuum_laws.Goals as goal

pub returns : goal.returns
returns g c = record { opens = opens_vacuum _; adds = adds_keep _; leaves = leaves_keep _ }
