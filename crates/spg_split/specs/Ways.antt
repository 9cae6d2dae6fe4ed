-- What a division at a root did, and what the insert notes of it.
use Rattle.std.specs.Prelude.{◌≡◌, ℕ, true, false, Option, Some, None}
use Rattle.spg_opclass.specs.Meaning.{Meaning}
use Rattle.spg_tree.specs.Table.{Table}
use Rattle.spg_forest.specs.View.{Place}
use Rattle.spg_tree.specs.Descents.{Descending, placed, risen}
use Rattle.spg_tree.specs.declared.stand.Stand.TheVariants.{At}
use Rattle.spg_descend.specs.Follows.{tuple_place}
use Rattle.spg_descend.specs.Makes.{MakesOne}
use Rattle.spg_split.specs.Below.{SplitsWith, SplitsWithout}
use Rattle.spg_split.specs.declared.split.SplitOut.{SplitOut}
use Rattle.spg_split.specs.declared.split.SplitOut.TheVariants.{Put, LeftOut}
use Rattle.spg_split.specs.declared.put.Divided.{Divided}
use Rattle.spg_split.specs.declared.put.Divided.TheVariants.{With, Without}
use Rattle.spg_split.specs.Splits.{PartsWith, PartsWithout, IsCalm}

-- the row is put, or the entries stay as they are; the one inner tuple that is made stands where the insert stood
abbrev pub IsSplitWay : {Key Recon Cond : Type 0} → Meaning Key Recon Cond → Table → Table → Descending Recon → Divided → Type 0
IsSplitWay m t t2 d With = PartsWith m t t2 d × IsCalm t t2 d.stand × MakesOne t t2 (tuple_place d.stand)
IsSplitWay m t t2 d (Without false) = IsCalm t t2 d.stand × MakesOne t t2 (tuple_place d.stand) × PartsWithout m t t2 d d 0
IsSplitWay m t t2 d (Without true) = IsCalm t t2 d.stand × MakesOne t t2 (tuple_place d.stand) × PartsWithout m t t2 d (risen d) 1

-- the insert has put its leaf, or left it out and perhaps made the tree higher
abbrev pub Notes : {Recon : Type 0} → Descending Recon → Descending Recon → Divided → SplitOut → Type 0
Notes d d2 With out = (out ≡ Put) × (d2 ≡ d)
Notes d d2 (Without false) out = (out ≡ LeftOut) × (d2 ≡ d)
Notes d d2 (Without true) out = (out ≡ LeftOut) × (d2 ≡ risen d)

-- what a division below a root did: the row is put, or the entries stay as they are and the insert stands at the new inner tuple
abbrev pub IsChainWay : {Key Recon Cond : Type 0} → Meaning Key Recon Cond → Table → Table → Descending Recon → Place → Divided → Type 0
IsChainWay m t t2 d z With = SplitsWith m t t2 d z
IsChainWay m t t2 d z (Without false) = SplitsWithout m t t2 d (placed d (At z) d.parent) z 0
IsChainWay m t t2 d z (Without true) = SplitsWithout m t t2 d (risen (placed d (At z) d.parent)) z 1

-- and what the insert notes of it
abbrev pub NotesChain : {Recon : Type 0} → Descending Recon → Descending Recon → Place → Divided → SplitOut → Type 0
NotesChain d d2 z With out = (out ≡ Put) × (d2 ≡ d)
NotesChain d d2 z (Without false) out = (out ≡ LeftOut) × (d2 ≡ placed d (At z) d.parent)
NotesChain d d2 z (Without true) out = (out ≡ LeftOut) × (d2 ≡ risen (placed d (At z) d.parent))

-- an insert below a root has a tuple above it
abbrev pub IsBelowParent : Option (Place × ℕ) → Type 0
IsBelowParent None = ⊥
IsBelowParent (Some p) = Unit {0}
