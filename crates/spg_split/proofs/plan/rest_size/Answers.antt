use Rattle.std.proofs.Common.{sym, subst, arith, ◌+◌}
use Rattle.spg_split.specs.declared.plan.ListSize.{ListSize}
use Rattle.spg_split.proofs.Sizes.{IsResting, resting_taken, resting_passed}
use Rattle.spg_split.proofs.plan.rest_size.Goals.{then-from-node_of, else-from-node_of}
use Rattle.spg_split.proofs.plan.rest_size.Goals as goal

pub loop-index-preserved : goal.loop-index-preserved
loop-index-preserved c =
    let Done : ListSize → Type 0 = λ s. IsResting c.args.from c.args.leaves.now c.args.node_of.now s (c.loop-index.index + 1) in
    elim c.if-from-node_of.branch [
      | then-from-node_of w ↦ subst Done (sym w.size-is)
          (resting_taken c.args.from c.args.leaves.now c.args.node_of.now c.loop-index.size w.with_leaf-size.result c.loop-index.index w.index-leaves-index.result c.loop-index.invariant c.loop-index-test.true c.requires.each w.if-from-node_of.true w.index-leaves-index.is
          w.with_leaf-size.ensures.small w.with_leaf-size.ensures.tuples w.with_leaf-size.ensures.bytes)
      | else-from-node_of w ↦ subst Done (sym w.size-is) (resting_passed c.args.from c.args.leaves.now c.args.node_of.now c.loop-index.size c.loop-index.index c.loop-index.invariant c.loop-index-test.true c.requires.each (let h = w.if-from-node_of.false in omega arith))
    ]
