use Rattle.spg_scan.proofs.Gathering.{reads}
use Rattle.spg_scan.proofs.laws.item_laws.Goals as goal

pub returns : goal.returns
returns g c = reads g.O.OpClass.meaning
