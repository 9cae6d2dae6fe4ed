use Rattle.spg_seats.proofs.Opening.{rows_stay, put_holds, still_holds, sweeps_hold}
use Rattle.spg_seats.proofs.event_laws.Goals as goal

pub returns : goal.returns
returns g c = record { rows = rows_stay g.O.OpClass.meaning; put = put_holds g.O.OpClass.meaning; still = still_holds g.O.OpClass.meaning; sweeps = sweeps_hold g.O.OpClass.meaning }
