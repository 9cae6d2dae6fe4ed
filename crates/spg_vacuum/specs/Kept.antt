-- How a vacuum stays what it is.
use Rattle.std.specs.Prelude.{◌≡◌, ℕ, ◌≤◌, List, Bool, true, false, Option}
use Rattle.spg_base.specs.Row.{RowAt}
use Rattle.spg_opclass.specs.Meaning.{Meaning}
use Rattle.spg_forest.specs.View.{Place}
use Rattle.spg_forest.specs.Section.{Adds, Leaves, Cost}
use Rattle.spg_forest.specs.Shape.{Shape, spots}
use Rattle.spg_forest.specs.Classes.{HasEntry}
use Rattle.spg_cover.specs.Vacuum.{Of}
use Rattle.spg_tree.specs.Table.{Table, sheets_of}
use Rattle.spg_vacuum.specs.declared.vacuum.Vacuum.{Vacuum}
use Rattle.spg_vacuum.specs.Listing.{none_listed}
use Rattle.spg_vacuum.specs.Vacuums.{IsVacuum}

-- a vacuum that opens at the clock, where each of its targets is an entry
abbrev pub OpensVacuum : {Key Recon Cond : Type 0} → Meaning Key Recon Cond → Type 0
OpensVacuum {Key} m = (t : Table) (v : Vacuum) (targets : RowAt → Bool) → Shape m (sheets_of t) → v.stamp ≡ t.clock → v.next ≡ 1 → v.pending ≡ none_listed →
    ((row : RowAt) → targets row ≡ true → (key : Option Key) × HasEntry m (spots (sheets_of t)) row key) → IsVacuum m t v (Of targets)

-- a section of another seat that puts a row which is no target
abbrev pub AddsKeepVacuum : {Key Recon Cond : Type 0} → Meaning Key Recon Cond → Type 0
AddsKeepVacuum {Key} m = (t t2 : Table) (v : Vacuum) (touched : List ℕ) (cost : Cost) (row : RowAt) (key : Option Key) (moved : Place → Place) (targets : RowAt → Bool) → Shape m (sheets_of t) →
    Adds m (sheets_of t) (sheets_of t2) touched cost row key moved → targets row ≡ false → IsVacuum m t v (Of targets) → IsVacuum m t2 v (Of targets)

-- a section of another seat that leaves the entries as they are
abbrev pub LeavesKeepVacuum : {Key Recon Cond : Type 0} → Meaning Key Recon Cond → Type 0
LeavesKeepVacuum m = (t t2 : Table) (v : Vacuum) (touched : List ℕ) (cost : Cost) (since : ℕ) (moved : Place → Place) (targets : RowAt → Bool) → Shape m (sheets_of t) →
    Leaves m (sheets_of t) (sheets_of t2) touched cost since moved → since ≤ v.stamp → IsVacuum m t v (Of targets) → IsVacuum m t2 v (Of targets)
