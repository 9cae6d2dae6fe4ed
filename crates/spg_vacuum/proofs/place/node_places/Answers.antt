use Rattle.std.proofs.Common.{sym, ◌∙◌, arith}
use Rattle.spg_forest.specs.Pages.{tuple_on}
use Rattle.spg_forest.specs.Sheets.{links}
use Rattle.spg_vacuum.proofs.High.{node_some, node_none}
use Rattle.spg_vacuum.proofs.place.node_places.Goals.{in-Some+in_ok-push, in_default}
use Rattle.spg_vacuum.proofs.place.node_places.Goals as goal

pub loop-node-preserved : goal.loop-node-preserved
loop-node-preserved c =
    let v = c.node_count_at-node-end.ensures.value in let h = c.loop-node-test.true in
    elim c.match-link_at.branch [
      | in-Some+in_ok-push w ↦ w.places-is ∙ w.in_ok-push.ensures.ok
          ∙ node_some (links (tuple_on c.args.page.now.tuples c.args.offset)) c.loop-node.node w.in-Some.place c.loop-node.places (omega arith) (sym c.link_at.ensures.value ∙ w.in-Some.is) c.loop-node.invariant
      | in_default w ↦ w.places-is ∙ node_none (links (tuple_on c.args.page.now.tuples c.args.offset)) c.loop-node.node c.loop-node.places (omega arith) (sym c.link_at.ensures.value ∙ w.in_default.is) c.loop-node.invariant
    ]
