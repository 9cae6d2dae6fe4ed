use Rattle.spg_seats.proofs.Slots.{others_stay, keeps}
use Rattle.spg_seats.proofs.seat_laws.Goals as goal

pub returns : goal.returns
returns g c = record { others = others_stay g.O.OpClass.meaning; keeps = keeps g.O.OpClass.meaning }
