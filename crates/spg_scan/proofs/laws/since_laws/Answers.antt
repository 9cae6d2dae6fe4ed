use Rattle.spg_scan.proofs.Gathering.{reads_since}
use Rattle.spg_scan.proofs.Since.{scan_reuses}
use Rattle.spg_scan.proofs.laws.since_laws.Goals as goal

pub returns : goal.returns
returns g c = record { reuses = scan_reuses; reads = reads_since g.O.OpClass.meaning }
