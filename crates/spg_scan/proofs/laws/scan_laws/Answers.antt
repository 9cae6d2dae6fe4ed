use Rattle.spg_scan.proofs.Covers.{scan_stays, scan_open, scan_ends}
use Rattle.spg_scan.proofs.laws.scan_laws.Goals as goal

pub returns : goal.returns
returns g c = record { stays = scan_stays _; still = scan_open g.O.OpClass.meaning; ends = scan_ends _ }
