use Rattle.std.proofs.Common.{Option, drop, sym, subst, ◌+◌}
use Rattle.spg_forest.specs.Sheets.{Sheet}
use Rattle.spg_split.specs.Placing.{taken_by}
use Rattle.spg_split.specs.declared.placing.Ends.{Ends}
use Rattle.spg_chain.proofs.LiveLists.{unlinked_at}
use Rattle.spg_split.proofs.Growing.{IsGrowing, turn_room, turn_taken, turn_passed}
use Rattle.spg_split.proofs.placing.put_list.Goals.{then-node_of-index, else-node_of-index}
use Rattle.spg_split.proofs.placing.put_list.Goals as goal

pub add_at_end-requires-clause-leaf : goal.add_at_end-requires-clause-leaf
add_at_end-requires-clause-leaf c = rw c.index-leaves-index.is (unlinked_at c.args.leaves.now c.loop-index.index c.index-leaves-index.result c.requires.leaves c.loop-index-test.true)

pub add_at_end-requires-clause-room : goal.add_at_end-requires-clause-room
add_at_end-requires-clause-room c = turn_room c.args.page.now (taken_by c.args.node c.args.leaves.now c.args.node_of.now) c.loop-index.page c.loop-index.ends c.args.node c.args.leaves.now c.args.node_of.now c.loop-index.index c.index-leaves-index.result
    c.loop-index.invariant c.requires.leaves c.loop-index-test.true c.requires.each c.if-node_of-index.true c.index-leaves-index.is

pub loop-index-preserved : goal.loop-index-preserved
loop-index-preserved c =
    let Done : Sheet → Option Ends → Type 0 = λ q e. IsGrowing c.args.page.now (taken_by c.args.node c.args.leaves.now c.args.node_of.now) q e (taken_by c.args.node (drop (c.loop-index.index + 1) c.args.leaves.now) (drop (c.loop-index.index + 1) c.args.node_of.now)) in
    elim c.if-node_of-index.branch [
      | then-node_of-index w ↦ subst (λ q. Done q c.if-node_of-index.ends) (sym w.page-is) (subst (λ e. Done w.add_at_end.new.page e) (sym w.ends-is)
          (turn_taken c.args.page.now (taken_by c.args.node c.args.leaves.now c.args.node_of.now) c.loop-index.page c.loop-index.ends c.args.node c.args.leaves.now c.args.node_of.now c.loop-index.index w.index-leaves-index.result w.add_at_end.result w.add_at_end.new.page
          c.loop-index.invariant c.loop-index-test.true c.requires.each w.if-node_of-index.true w.index-leaves-index.is w.add_at_end.ensures.last w.add_at_end.ensures.head w.add_at_end.ensures.tuples))
      | else-node_of-index w ↦ subst (λ q. Done q c.if-node_of-index.ends) (sym w.page-is) (subst (λ e. Done c.loop-index.page e) (sym w.ends-is)
          (turn_passed c.args.page.now (taken_by c.args.node c.args.leaves.now c.args.node_of.now) c.loop-index.page c.loop-index.ends c.args.node c.args.leaves.now c.args.node_of.now c.loop-index.index c.loop-index.invariant c.loop-index-test.true c.requires.each w.if-node_of-index.false))
    ]
