-- What a scan that does something with an item rests on.
use Rattle.std.proofs.Common.{◌≡◌, Option, Some, sym, ◌∙◌, subst}
use Rattle.spg_base.specs.Row.{RowAt}
use Rattle.spg_opclass.specs.Meaning.{Meaning}
use Rattle.spg_opclass.specs.Laws.{KeptLaw, CodeLaw}
use Rattle.spg_forest.specs.Classes.{HasEntry}
use Rattle.spg_forest.specs.Sheets.{Sheets}
use Rattle.spg_forest.specs.Shape.{Represents, spots}
use Rattle.spg_rows.specs.History.{History}
use Rattle.spg_rows.specs.Lives.{lives}
use Rattle.spg_rows.specs.Rows.{key_of as row_key}
use Rattle.spg_rows.specs.Rows.{state_of}
use Rattle.spg_rows.specs.declared.table.RowState.TheVariants.{Live}
use Rattle.spg_rows.specs.Legal.{IsLegal}
use Rattle.spg_rows.specs.States.{StateSays}
use Rattle.spg_rows.specs.Right.{MayBeFound}
use Rattle.spg_rows.specs.Scans.{IsNeeded}
use Rattle.spg_rows.specs.Table as rows
use Rattle.spg_rows.proofs.Histories.{sane_from_legal}
use Rattle.spg_rows.proofs.Uses.{live_present}
use Rattle.spg_rows.proofs.Scans.{needed_live, live_found, found_may}
use Rattle.spg_scan.specs.Scanning.{Scanning, IsLiveIn}
use Rattle.spg_scan.proofs.CoverKeys.{HasAsked}
use Rattle.spg_scan.specs.Cover.{IsScanOf}
use Rattle.spg_scan.specs.Since.{NoneReused}
use Rattle.spg_rows.specs.Present.{IsPresentWith}

-- the laws of the class; a legal history; pages that hold the rows that are present; row states that are those of the history; and the scan, since whose open no row was used again
pub record Grounds {O Key Recon Cond : Type 0} (m : Meaning Key Recon Cond) (S : Sheets) (before past : History O Key Recon Cond) (table : rows.Table O Key Recon Cond) (s : Scanning O Key Recon Cond) : Type 0 where
  pub kept : KeptLaw m
  pub codes : CodeLaw m
  pub legal : IsLegal past
  pub holds : Represents m S (IsPresentWith past)
  pub states : (r : RowAt) → rows.state_in table r ≡ state_of r past
  pub none : NoneReused before past
  pub is : IsScanOf m S before past s

module _ {O Key Recon Cond : Type 0} (m : Meaning Key Recon Cond) (S : Sheets) (before past : History O Key Recon Cond) (table : rows.Table O Key Recon Cond) (s : Scanning O Key Recon Cond) (A : Grounds m S before past table s) where
  pub live_entry : (row : RowAt) (key : Option Key) → state_of row past ≡ Live → row_key row past ≡ Some key → HasEntry m (spots S) row key
  live_entry row key live keyed = (A.holds.entries row key).1 (live_present (lives row past) (subst (λ x. StateSays x (lives row past)) live ((sane_from_legal past A.legal).says row)), keyed)

  -- what is needed is live and has an entry with a key that the query asks for
  pub asked : (row : RowAt) → IsNeeded m before past s.query row → IsLiveIn table row × HasAsked m S s.query row
  asked row n = let (live, keyed) = needed_live m past (sane_from_legal past A.legal) before s.query row n in (A.states row ∙ live, (n.0.key, live_entry row n.0.key live keyed, n.2))

  -- a live row with an entry that the query asks for may be found
  pub may_find : (row : RowAt) → IsLiveIn table row → HasAsked m S s.query row → MayBeFound m before past s.query row
  may_find row live (key, entry, match) = found_may m past before s.query row key (live_found past (sane_from_legal past A.legal) before row key (sym (A.states row) ∙ live) ((A.holds.entries row key).0 entry).1) match
