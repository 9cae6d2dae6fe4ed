use Rattle.spg_scan.proofs.Opening.{scan_opens}
use Rattle.spg_scan.proofs.laws.opening_laws.Goals as goal

pub returns : goal.returns
returns g c = scan_opens g.O.OpClass.meaning
