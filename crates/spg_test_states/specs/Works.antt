-- What a seat does while others have scans open.
use Rattle.std.specs.Prelude.{◌≡◌, ◌≢◌, ℕ}
use Rattle.spg_opclass.specs.Meaning.{Meaning}
use Rattle.spg_scan.specs.Scanning.{Scanning}
use Rattle.spg_core.specs.Stage.{reading}
use Rattle.spg_core.specs.Seen.{Seen, stage_at}
use Rattle.spg_among.specs.Goes.{Goes}

-- for each other seat with a scan open it is what may come between two reads
abbrev pub Works : {O Key Recon Cond : Type 0} → Meaning Key Recon Cond → ℕ → Seen O Key Recon Cond → Seen O Key Recon Cond → Type 0
Works {O} {Key} {Recon} {Cond} m by old new = (seat : ℕ) (s : Scanning O Key Recon Cond) → by ≢ seat → stage_at old seat ≡ reading s → Goes m seat s.stamp old new
