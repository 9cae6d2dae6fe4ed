-- A fact of an outcome from another.
use Rattle.std.specs.Prelude.{true, false}
use Rattle.std.proofs.Common.{sym, subst, inl, inr}
use Rattle.spg_opclass.specs.Meaning.{Meaning}
use Rattle.spg_forest.specs.View.{Place}
use Rattle.spg_tree.specs.Table.{Table}
use Rattle.spg_tree.specs.Descents.{Descending}
use Rattle.spg_split.specs.declared.put.Divided.{Divided}
use Rattle.spg_split.specs.declared.put.Divided.TheVariants.{With, Without}
use Rattle.spg_split.specs.declared.split.SplitOut.{SplitOut}
use Rattle.spg_split.specs.Below.{IsChainSplit, SplitsWithout, MakesBelow}
use Rattle.spg_split.specs.Ways.{IsChainWay, NotesChain}

-- what the insert notes goes with what was done
pub chain_split : {Key Recon Cond : Type 0} (m : Meaning Key Recon Cond) (t t2 : Table) (d d2 : Descending Recon) (z : Place) (way : Divided) (out : SplitOut) → IsChainWay m t t2 d z way → MakesBelow t t2 d.parent z → NotesChain d d2 z way out → IsChainSplit m t t2 d d2 out
chain_split m t t2 d d2 z With out W M (e, f) = subst (λ (o : SplitOut). IsChainSplit m t t2 d d2 o) (sym e) (z, M, W, f)
chain_split m t t2 d d2 z (Without false) out W M (e, f) = subst (λ (o : SplitOut). IsChainSplit m t t2 d d2 o) (sym e) (z, M, inl (f, subst (λ (x : Descending _). SplitsWithout m t t2 d x z 0) (sym f) W))
chain_split m t t2 d d2 z (Without true) out W M (e, f) = subst (λ (o : SplitOut). IsChainSplit m t t2 d d2 o) (sym e) (z, M, inr (f, subst (λ (x : Descending _). SplitsWithout m t t2 d x z 1) (sym f) W))
