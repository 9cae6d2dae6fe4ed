-- That a row which lived since a scan opened is not used again, and what a scan does with an item where that is so.
use Rattle.std.specs.Prelude.{◌≡◌, ◌≤◌, ◌<◌, ℕ, List, [], ◌∷◌}
use Rattle.spg_base.specs.Row.{RowAt}
use Rattle.spg_opclass.specs.Meaning.{Meaning}
use Rattle.spg_opclass.specs.Laws.{KeptLaw, CodeLaw}
use Rattle.spg_opclass.specs.declared.query.Query.{Query}
use Rattle.spg_forest.specs.Sheets.{Sheets}
use Rattle.spg_forest.specs.Shape.{Represents}
use Rattle.spg_rows.specs.History.{History, scanning, open_of}
use Rattle.spg_rows.specs.Lives.{Life, lives, IsOneOf}
use Rattle.spg_rows.specs.Rows.{state_of}
use Rattle.spg_rows.specs.Legal.{IsLegal}
use Rattle.spg_rows.specs.Right.{HasLived}
use Rattle.spg_rows.specs.Present.{IsPresentWith}
use Rattle.spg_rows.specs.Table as rows
use Rattle.spg_scan.specs.Items.{Item, IsItem}
use Rattle.spg_scan.specs.Scanning.{Scanning, replaced}
use Rattle.spg_scan.specs.Reading.{DoesItem}
use Rattle.spg_scan.specs.Cover.{IsScanOf}

-- the lives but the last one
abbrev pub older : {Key : Type 0} → List (Life Key) → List (Life Key)
older [] = []
older (life ∷ lives) = lives

-- no life but the last one of its row was live after `before`
abbrev pub NoneReused : {O Key Recon Cond : Type 0} → History O Key Recon Cond → History O Key Recon Cond → Type 0
NoneReused {O} {Key} before past = (r : RowAt) (life : Life Key) → IsOneOf life (older (lives r past)) → HasLived before life → ⊥

-- so it is while a seat has a scan open
abbrev pub ScanReuses : (O Key Recon Cond : Type 0) → Type 0
ScanReuses O Key Recon Cond = (past before : History O Key Recon Cond) (query : Query O Key Recon Cond) (seat : ℕ) → IsLegal past → open_of seat past ≡ scanning before query → NoneReused before past

-- then, whatever a scan does with an item, it stays what it is; the row states are those of the history
abbrev pub ReadStaysSince : (O Key Recon Cond : Type 0) → Meaning Key Recon Cond → Type 0
ReadStaysSince O Key Recon Cond m = (S : Sheets) (before past : History O Key Recon Cond) (s : Scanning O Key Recon Cond) (table : rows.Table O Key Recon Cond) (i : ℕ) (it : Item Recon) (ys : List (Item Recon)) (found : List RowAt) (met : ℕ) →
    KeptLaw m → CodeLaw m → IsLegal past → NoneReused before past → Represents m S (IsPresentWith past) → ((r : RowAt) → rows.state_in table r ≡ state_of r past) → IsItem s.items i it → DoesItem m S table s.query it ys found → IsScanOf m S before past s →
    IsScanOf m S before past (replaced s i ys found met)
