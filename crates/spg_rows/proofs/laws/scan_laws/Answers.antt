use Rattle.spg_rows.proofs.Scans.{needed_before, found_stays, not_reused, killed_swept}
use Rattle.spg_rows.proofs.laws.scan_laws.Goals as goal

pub returns : goal.returns
returns g c = record { needed = needed_before; found = found_stays; reused = not_reused; old = killed_swept }
