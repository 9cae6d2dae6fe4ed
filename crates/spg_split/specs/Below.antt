-- What the division of a chain below a root does.
use Rattle.std.specs.Prelude.{◌≡◌, ◌⊎◌, ℕ, Option, Some, None}
use Rattle.spg_opclass.specs.Meaning.{Meaning}
use Rattle.spg_forest.specs.View.{Place}
use Rattle.spg_forest.specs.Pages.{moved}
use Rattle.spg_forest.specs.Section.{Adds, Leaves}
use Rattle.spg_tree.specs.Table.{Table, sheets_of}
use Rattle.spg_tree.specs.Descents.{Descending, placed, risen}
use Rattle.spg_tree.specs.declared.stand.Stand.TheVariants.{At}
use Rattle.spg_descend.specs.Answers.{LeadsNowhere}
use Rattle.spg_descend.specs.Carried.{IsCarried}
use Rattle.spg_descend.specs.Follows.{IsAtInner, tuple_place}
use Rattle.spg_descend.specs.Makes.{MakesOne, IsNextTo}
use Rattle.spg_split.specs.Shrinks.{Shrinks}
use Rattle.spg_split.specs.declared.split.SplitOut.{SplitOut}
use Rattle.spg_split.specs.declared.split.SplitOut.TheVariants.{Put, LeftOut}
use Rattle.spg_split.specs.Splits.{split_cost}
pub use Rattle.spg_descend.specs.Below.{IsLedTo}

-- the one inner tuple that is made is that at z, on the block of the tuple above or on one of the next parity
abbrev pub MakesBelow : Table → Table → Option (Place × ℕ) → Place → Type 0
MakesBelow t t2 None z = ⊥
MakesBelow t t2 (Some (p, i)) z = MakesOne t t2 z × IsNextTo p.block z

-- the row is put with the key that the insert carries; the chain's place has gone to the inner tuple at z
abbrev pub SplitsWith : {Key Recon Cond : Type 0} → Meaning Key Recon Cond → Table → Table → Descending Recon → Place → Type 0
SplitsWith {Key} m t t2 d z = (key : Option Key) → IsCarried m (sheets_of t) d key → Adds m (sheets_of t) (sheets_of t2) t2.touched (split_cost d.stand 1) d.row key (moved (tuple_place d.stand) z)

-- the entries stay as they are; at the new inner tuple at z the insert carries what it carried
pub record SplitsWithout {Key Recon Cond : Type 0} (m : Meaning Key Recon Cond) (t t2 : Table) (d d2 : Descending Recon) (z : Place) (spread : ℕ) : Type 0 where
  pub leaves : Leaves m (sheets_of t) (sheets_of t2) t2.touched (split_cost d.stand spread) 0 (moved (tuple_place d.stand) z)
  pub inner : IsAtInner t2 (At z)
  pub link : IsLedTo t2 d.parent z
  pub shrinks : Shrinks m t t2 d d2
  -- where the spread rises the class answers a match with a node that leads nowhere
  pub settles : (spread ≡ 0) ⊎ LeadsNowhere m t2 d2
  pub carries : (key : Option Key) → IsCarried m (sheets_of t) d key → IsCarried m (sheets_of t2) d2 key

-- What comes of a division below a root. Where the leaf is left out, the spread rises by 1 at most, and only where that is noted
abbrev pub IsChainSplit : {Key Recon Cond : Type 0} → Meaning Key Recon Cond → Table → Table → Descending Recon → Descending Recon → SplitOut → Type 0
IsChainSplit m t t2 d d2 Put = (z : Place) × MakesBelow t t2 d.parent z × SplitsWith m t t2 d z × (d2 ≡ d)
IsChainSplit m t t2 d d2 LeftOut = (z : Place) × MakesBelow t t2 d.parent z × (((d2 ≡ placed d (At z) d.parent) × SplitsWithout m t t2 d d2 z 0) ⊎ ((d2 ≡ risen (placed d (At z) d.parent)) × SplitsWithout m t t2 d d2 z 1))
