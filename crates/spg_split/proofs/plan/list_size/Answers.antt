use Rattle.std.proofs.Common.{sym, subst, ◌+◌}
use Rattle.spg_split.specs.declared.plan.ListSize.{ListSize}
use Rattle.spg_split.proofs.Sizes.{IsSizing, sizing_taken, sizing_passed}
use Rattle.spg_split.proofs.plan.list_size.Goals.{then-node_of-index, else-node_of-index}
use Rattle.spg_split.proofs.plan.list_size.Goals as goal

pub loop-index-preserved : goal.loop-index-preserved
loop-index-preserved c =
    let Done : ListSize → Type 0 = λ s. IsSizing c.args.node c.args.leaves.now c.args.node_of.now s (c.loop-index.index + 1) in
    elim c.if-node_of-index.branch [
      | then-node_of-index w ↦ subst Done (sym w.size-is)
          (sizing_taken c.args.node c.args.leaves.now c.args.node_of.now c.loop-index.size w.with_leaf-size.result c.loop-index.index w.index-leaves-index.result c.loop-index.invariant c.requires.leaves c.loop-index-test.true c.requires.each w.if-node_of-index.true w.index-leaves-index.is
          w.with_leaf-size.ensures.small w.with_leaf-size.ensures.tuples w.with_leaf-size.ensures.bytes)
      | else-node_of-index w ↦ subst Done (sym w.size-is) (sizing_passed c.args.node c.args.leaves.now c.args.node_of.now c.loop-index.size c.loop-index.index c.loop-index.invariant c.loop-index-test.true c.requires.each w.if-node_of-index.false)
    ]
