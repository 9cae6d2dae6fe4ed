-- Small scans that meet the definitions.
use Rattle.std.specs.Prelude.{◌≡◌, ◌≤◌, ℕ, true, [], ◌∷◌, Some}
use Rattle.spg_opclass.specs.Meaning.{Meaning}
use Rattle.spg_opclass.specs.Laws.{leaf_size}
use Rattle.spg_opclass.specs.declared.query.Query.{Query}
use Rattle.spg_opclass.specs.declared.query.Query.TheVariants.{All}
use Rattle.spg_forest.specs.View.{Leaf}
use Rattle.spg_forest.specs.Examples.{new_sheets, one_sheets}
use Rattle.spg_rows.specs.declared.event.Event.TheVariants.{OpenInsert, Put, OpenScan}
use Rattle.spg_rows.specs.History.{History}
use Rattle.spg_rows.specs.Scans.{IsNeeded}
use Rattle.spg_scan.specs.Scanning.{Scanning, opened, replaced}
use Rattle.spg_scan.specs.Cover.{IsScanOf}

-- a scan of a new index
abbrev pub NewScan : (O Key Recon Cond : Type 0) → Meaning Key Recon Cond → Type 0
NewScan O Key Recon Cond m = (seat : ℕ) (query : Query O Key Recon Cond) → IsScanOf m new_sheets [] (OpenScan seat query ∷ []) (opened m query 0 0)

-- one insert, of which the leaf was put
abbrev pub one_put : {O Key Recon Cond : Type 0} → Leaf → Key → History O Key Recon Cond
one_put new key = Put 0 new.row ∷ OpenInsert 0 new.row (Some key) ∷ []

-- a scan of everything, at its opening, and once it has read the main root
abbrev pub all_opened : {O Key Recon Cond : Type 0} → Meaning Key Recon Cond → Scanning O Key Recon Cond
all_opened m = opened m All 2 0

abbrev pub all_read : {O Key Recon Cond : Type 0} → Meaning Key Recon Cond → Leaf → Scanning O Key Recon Cond
all_read m new = replaced (all_opened m) 0 [] (new.row ∷ []) 1

-- of an index with one entry a scan must give the row, which is below the main root at first, and then taken
abbrev pub OneScan : (O Key Recon Cond : Type 0) → Meaning Key Recon Cond → Type 0
OneScan O Key Recon Cond m = (new : Leaf) (key : Key) → m.rebuild m.start new.rest ≡ Some key → m.is_rest new.rest ≡ true → leaf_size new.rest ≤ 8156 →
    IsNeeded {O = O} m (one_put new key) (OpenScan 1 All ∷ one_put new key) All new.row × IsScanOf {O = O} m (one_sheets new) (one_put new key) (OpenScan 1 All ∷ one_put new key) (all_opened m) ×
    IsScanOf {O = O} m (one_sheets new) (one_put new key) (OpenScan 1 All ∷ one_put new key) (all_read m new)
