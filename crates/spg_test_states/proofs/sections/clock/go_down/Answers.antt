use Rattle.std.proofs.Common.{rules, subst}
use Rattle.spg_descend.specs.declared.enter.Entered.{Entered}
use Rattle.spg_descend.specs.Follows.{IsAtInner, FollowsNode}
use Rattle.spg_test_states.proofs.LaterPages.{below, first_node}
use Rattle.spg_test_states.proofs.sections.clock.go_down.Goals as goal

pub returns-in-In-clause-shape : goal.returns-in-In-clause-shape
returns-in-In-clause-shape g c =
    let m = g.O.OpClass.meaning in
    let t = c.args.table.now in
    let d = c.args.descent.now in
    let inner : IsAtInner t d.stand = search rules in
    (below m t c.follow.new.table d c.follow.new.descent c.first.result 0 c.new.result c.requires.shape c.requires.stands inner (first_node m t d c.requires.shape c.requires.stands inner)
    (subst (λ (e : Entered). FollowsNode m t c.follow.new.table d c.follow.new.descent c.first.result 0 c.new.result e) c.in-In.is c.follow.ensures.follows)).0

pub returns-in-In-clause-stands : goal.returns-in-In-clause-stands
returns-in-In-clause-stands g c =
    let m = g.O.OpClass.meaning in
    let t = c.args.table.now in
    let d = c.args.descent.now in
    let inner : IsAtInner t d.stand = search rules in
    (below m t c.follow.new.table d c.follow.new.descent c.first.result 0 c.new.result c.requires.shape c.requires.stands inner (first_node m t d c.requires.shape c.requires.stands inner)
    (subst (λ (e : Entered). FollowsNode m t c.follow.new.table d c.follow.new.descent c.first.result 0 c.new.result e) c.in-In.is c.follow.ensures.follows)).1
