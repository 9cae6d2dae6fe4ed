use Rattle.spg_sweeps.proofs.Falls.{opens_once, sweeps_fall}
use Rattle.spg_sweeps.proofs.sweep_laws.Goals as goal

pub returns : goal.returns
returns g c = record { opens = opens_once; falls = sweeps_fall g.O.OpClass.meaning }
