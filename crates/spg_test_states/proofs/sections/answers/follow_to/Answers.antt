use Rattle.std.proofs.Common.{subst}
use Rattle.spg_descend.specs.declared.enter.Entered.{Entered}
use Rattle.spg_descend.specs.Follows.{FollowsNode, CarriesBelow}
use Rattle.spg_test_states.proofs.LaterPages.{named_node, led_below}
use Rattle.spg_test_states.proofs.sections.answers.follow_to.Goals as goal

pub follow-requires-clause-node : goal.follow-requires-clause-node
follow-requires-clause-node g c =
    let (key, C) = c.requires.of_key in
    (named_node g.O.OpClass.meaning g.O.OpClass.matches c.args.table.now c.args.descent.now c.requires.shape c.requires.stands c.requires.inner c.requires.main c.args.node c.args.rest c.requires.answer key C).there

pub recon_below-requires-clause-node : goal.recon_below-requires-clause-node
recon_below-requires-clause-node g c =
    let (key, C) = c.requires.of_key in
    (named_node g.O.OpClass.meaning g.O.OpClass.matches c.args.table.now c.args.descent.now c.requires.shape c.requires.stands c.requires.inner c.requires.main c.args.node c.args.rest c.requires.answer key C).label

pub returns-in-In-clause-shape : goal.returns-in-In-clause-shape
returns-in-In-clause-shape g c =
    let m = g.O.OpClass.meaning in
    let t = c.args.table.now in
    let d = c.args.descent.now in
    let t1 = c.follow.new.table in
    let d2 = c.follow.new.descent in
    let node = c.args.node in
    let rest = c.args.rest in
    (led_below m g.O.OpClass.matches t t1 d d2 c.first.result node rest c.requires.shape c.requires.stands c.requires.inner c.requires.main c.requires.answer c.requires.of_key
    (subst (λ (e : Entered). FollowsNode m t t1 d d2 c.first.result node rest e) c.in-In.is c.follow.ensures.follows) (subst (λ (e : Entered). CarriesBelow m t t1 d d2 node rest e) c.in-In.is c.follow.ensures.carries)).0

pub returns-in-In-clause-stands : goal.returns-in-In-clause-stands
returns-in-In-clause-stands g c =
    let m = g.O.OpClass.meaning in
    let t = c.args.table.now in
    let d = c.args.descent.now in
    let t1 = c.follow.new.table in
    let d2 = c.follow.new.descent in
    let node = c.args.node in
    let rest = c.args.rest in
    (led_below m g.O.OpClass.matches t t1 d d2 c.first.result node rest c.requires.shape c.requires.stands c.requires.inner c.requires.main c.requires.answer c.requires.of_key
    (subst (λ (e : Entered). FollowsNode m t t1 d d2 c.first.result node rest e) c.in-In.is c.follow.ensures.follows) (subst (λ (e : Entered). CarriesBelow m t t1 d d2 node rest e) c.in-In.is c.follow.ensures.carries)).1

pub returns-in-In-clause-of_key : goal.returns-in-In-clause-of_key
returns-in-In-clause-of_key g c =
    let m = g.O.OpClass.meaning in
    let t = c.args.table.now in
    let d = c.args.descent.now in
    let t1 = c.follow.new.table in
    let d2 = c.follow.new.descent in
    let node = c.args.node in
    let rest = c.args.rest in
    (led_below m g.O.OpClass.matches t t1 d d2 c.first.result node rest c.requires.shape c.requires.stands c.requires.inner c.requires.main c.requires.answer c.requires.of_key
    (subst (λ (e : Entered). FollowsNode m t t1 d d2 c.first.result node rest e) c.in-In.is c.follow.ensures.follows) (subst (λ (e : Entered). CarriesBelow m t t1 d d2 node rest e) c.in-In.is c.follow.ensures.carries)).2
