use Rattle.spg_scan.proofs.SmallScans.{one_scan}
use Rattle.spg_scan.proofs.examples.one_scan.Goals as goal

pub returns : goal.returns
returns g c = one_scan g.O.OpClass.meaning g.O.OpClass.keeps g.O.OpClass.codes
