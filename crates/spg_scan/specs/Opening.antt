-- What holds of a scan at its opening.
use Rattle.std.specs.Prelude.{ℕ, ◌∷◌, length}
use Rattle.spg_opclass.specs.Meaning.{Meaning}
use Rattle.spg_opclass.specs.declared.query.Query.{Query}
use Rattle.spg_forest.specs.Sheets.{Sheets}
use Rattle.spg_forest.specs.Shape.{Represents}
use Rattle.spg_rows.specs.declared.event.Event.TheVariants.{OpenScan}
use Rattle.spg_rows.specs.History.{History}
use Rattle.spg_rows.specs.Legal.{IsLegal}
use Rattle.spg_rows.specs.Present.{IsPresentWith}
use Rattle.spg_scan.specs.Scanning.{opened}
use Rattle.spg_scan.specs.Cover.{IsScanOf}

-- a scan that opens now is one
abbrev pub ScanOpens : (O Key Recon Cond : Type 0) → Meaning Key Recon Cond → Type 0
ScanOpens O Key Recon Cond m = (S : Sheets) (past : History O Key Recon Cond) (seat : ℕ) (query : Query O Key Recon Cond) → IsLegal past → Represents m S (IsPresentWith past) →
    IsScanOf m S past (OpenScan seat query ∷ past) (opened m query (length past) S.clock)
