-- What an insert has latched after a section.
use Rattle.std.specs.Prelude.{◌≡◌, ◌||◌, ℕ, Option, Some, None, if◌then◌else◌}
use Rattle.spg_tree.specs.Table.{Table}
use Rattle.spg_tree.specs.Descents.{Descending}
use Rattle.spg_descend.specs.Follows.{IsOpenTo, latched}
use Rattle.spg_descend.specs.Leaves.{released, stand_block, parent_block, is_held}
use Rattle.spg_seats.specs.Latching.{InsertHolds, HoldsNone}
use Rattle.spg_core.specs.declared.answer.InsertOut.{InsertOut}
use Rattle.spg_core.specs.declared.answer.InsertOut.TheVariants.{Descended, Restructured, Restarted, Put}

-- what an insert holds after a section, beside the latches of others: at its start, and once its row is put, nothing
abbrev pub HoldsAfter : {Recon : Type 0} → Table → ℕ → (ℕ → Option ℕ) → Descending Recon → InsertOut → Type 0
HoldsAfter t seat rest d Descended = InsertHolds t seat rest d
HoldsAfter t seat rest d Restructured = InsertHolds t seat rest d
HoldsAfter t seat rest d (Restarted block by) = HoldsNone t seat rest × InsertHolds t seat rest d
HoldsAfter t seat rest d Put = HoldsNone t seat rest

-- the block on which an insert stood, unless it or the tuple above it is on that block now
abbrev pub left_block : Option ℕ → Option ℕ → Option ℕ → Option ℕ
left_block None now above = None
left_block (Some b) now above = if is_held now b || is_held above b then None else Some b

-- Where a section has put the row the latches of the insert are given free. Where it has changed pages else, the latch of the block on which the insert stands is taken, if no other seat holds it,
-- and that of the block on which it stood is given free, unless the tuple above is on it
abbrev pub Settles : {Recon : Type 0} → Table → Table → Descending Recon → Option ℕ → ℕ → InsertOut → Type 0
Settles t t2 d was seat Descended = t2 ≡ t
Settles t t2 d was seat Restructured =
    IsOpenTo t (stand_block d.stand) seat → t2 ≡ released (latched t (stand_block d.stand) seat) (left_block was (stand_block d.stand) (parent_block d.parent)) seat
Settles t t2 d was seat (Restarted block by) = t2 ≡ t
Settles t t2 d was seat Put = t2 ≡ released (released t (stand_block d.stand) seat) (parent_block d.parent) seat
