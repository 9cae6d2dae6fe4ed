use Rattle.spg_scan.proofs.SmallScans.{new_scan}
use Rattle.spg_scan.proofs.examples.new_scan.Goals as goal

pub returns : goal.returns
returns g c = new_scan g.O.OpClass.meaning
