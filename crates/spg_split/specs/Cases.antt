-- The division of leaves by cases: those of a root leaf page, and those of a chain below a root.
use Rattle.std.specs.Prelude.{◌≡◌, ◌⊎◌, ℕ}
use Rattle.spg_opclass.specs.Meaning.{Meaning}
use Rattle.spg_forest.specs.View.{Place}
use Rattle.spg_tree.specs.Table.{Table, sheets_of}
use Rattle.spg_tree.specs.Descents.{Descending, in_nulls}
use Rattle.spg_tree.specs.declared.stand.Stand.{Stand}
use Rattle.spg_descend.specs.Puts.{IsAtLeaves}
use Rattle.spg_descend.specs.Below.{IsAtChain}
use Rattle.spg_split.specs.declared.split.SplitOut.{SplitOut}
use Rattle.spg_split.specs.declared.split.SplitOut.TheVariants.{LeftOut}
use Rattle.spg_split.specs.Splits.{IsAtRoot, IsSplitOut, PartsWithout}
use Rattle.spg_split.specs.Below.{IsChainSplit, SplitsWithout}
use Rattle.spg_split.specs.declared.put.Divided.{Divided}
use Rattle.spg_split.specs.Causes.{IsCause, IsWayFor, root_bytes, chain_bytes, root_in_one, chain_in_one}
use Rattle.spg_split.specs.Ways.{Notes}
use Rattle.spg_split.specs.Fulls.{IsRootFull, IsChainFull}
use Rattle.spg_split.specs.Tables.{RootTable, ChainTable}

-- what holds of an insert that stands at a root, and what of one below a root
pub record ByCase (stand : Stand) (A B : Type 0) : Type 0 where
  pub root : IsAtRoot stand → A
  pub below : (IsAtRoot stand → ⊥) → B

-- the insert stands at a root leaf page of its tree, or at a chain to which the node of the tuple above leads
abbrev pub IsSplitSpot : {Recon : Type 0} → Table → Descending Recon → Type 0
IsSplitSpot t d = (IsAtRoot d.stand × IsAtLeaves (sheets_of t) (in_nulls d) d.stand) ⊎ IsAtChain t d

-- what comes of a division
abbrev pub IsLeafSplit : {Key Recon Cond : Type 0} → Meaning Key Recon Cond → Table → Table → Descending Recon → Descending Recon → SplitOut → Type 0
IsLeafSplit m t t2 d d2 out = ByCase d.stand (IsSplitOut m t t2 d d2 out) (IsChainSplit m t t2 d d2 out)

-- the whole table after it
abbrev pub LeafTable : {Key Recon Cond : Type 0} → Meaning Key Recon Cond → Table → Table → Descending Recon → Descending Recon → ℕ → SplitOut → Type 0
LeafTable m t t2 d d2 seat out = ByCase d.stand (RootTable m t t2 d seat) (ChainTable m t t2 d d2 seat out)

-- why it puts the leaf of the insert, or leaves it out
abbrev pub IsLeafCause : {Key Recon Cond : Type 0} → Meaning Key Recon Cond → Table → Descending Recon → SplitOut → Type 0
IsLeafCause m t d out = ByCase d.stand (IsCause (root_bytes m t d) out) (IsCause (chain_bytes m t d) out)

-- where it leaves it out the spread does not rise, but where all other leaves are in one node
abbrev pub RootRises : {Key Recon Cond : Type 0} → Meaning Key Recon Cond → Table → Table → Descending Recon → Descending Recon → SplitOut → Type 0
RootRises m t t2 d d2 out = (out ≡ LeftOut → PartsWithout m t t2 d d2 0) ⊎ root_in_one m t d

-- at a root the insert notes how its division was done: a rise exactly where its leaf is left out and all others are in one list
abbrev pub NotesRoot : {Key Recon Cond : Type 0} → Meaning Key Recon Cond → Table → Descending Recon → Descending Recon → SplitOut → Type 0
NotesRoot m t d d2 out = (way : Divided) × IsWayFor (root_bytes m t d) (root_in_one m t d) way × Notes d d2 way out

abbrev pub ChainRises : {Key Recon Cond : Type 0} → Meaning Key Recon Cond → Table → Table → Descending Recon → Descending Recon → SplitOut → Type 0
ChainRises m t t2 d d2 out = (out ≡ LeftOut → (z : Place) × SplitsWithout m t t2 d d2 z 0) ⊎ chain_in_one m t d

abbrev pub RisesAtMost : {Key Recon Cond : Type 0} → Meaning Key Recon Cond → Table → Table → Descending Recon → Descending Recon → SplitOut → Type 0
RisesAtMost m t t2 d d2 out = ByCase d.stand (RootRises m t t2 d d2 out) (ChainRises m t t2 d d2 out)

-- there is no page for it
abbrev pub IsLeafFull : {Key Recon Cond : Type 0} → Meaning Key Recon Cond → Table → Descending Recon → ℕ → Type 0
IsLeafFull m t d seat = ByCase d.stand (IsRootFull m t d seat) (IsChainFull m t d seat)
