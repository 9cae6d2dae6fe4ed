use Rattle.std.proofs.Common.{◌≡◌, ℕ, ◌<◌, Bool, IfSome, Some, length, inr, sym, ap, ◌∙◌, subst}
use Rattle.spg_forest.specs.Classes.{down_of}
use Rattle.spg_page.specs.Reads.{frame_in}
use Rattle.spg_tree.specs.Table.{Table, latch_at, tuple_at}
use Rattle.spg_tree.specs.Descents.{in_nulls}
use Rattle.spg_descend.specs.declared.enter.Entered.{Entered}
use Rattle.spg_descend.specs.Leaves.{stand_block}
use Rattle.spg_descend.specs.Follows.{FollowsNode, CarriesBelow, tuple_place, link_of, stand_below}
use Rattle.spg_seats.specs.Descending.{StandsAt}
use Rattle.spg_seats.proofs.Holding.{follow_holds, back_holds}
use Rattle.spg_core.specs.Stepping.{SamePages}
use Rattle.spg_core.specs.Telling.{turned}
use Rattle.spg_core.proofs.Stands.{child_stands, here_there, same_trans}
use Rattle.spg_core.proofs.Moves.{down_out, back_out, follows_same, turned_same, turned_latch, same_makes, same_within}
use Rattle.spg_core.proofs.Ends.{down_ends}
use Rattle.spg_core.proofs.Finds.{named_finds}
use Rattle.spg_core.proofs.inner.go_down.Goals as goal
use Rattle.spg_core.proofs.inner.go_down.Goals.{then-by_turn, else-by_turn}

pub returns-in-In-clause-does : goal.returns-in-In-clause-does
returns-in-In-clause-does g c =
    let t = c.args.table.now in
    let d = c.args.descent.now in
    let m = g.O.OpClass.meaning in
    let seat = c.args.seat in
    let node = c.args.node in
    let rest = c.args.rest in
    let t1 = c.follow-entered.new.table in
    let t2 = c.if-by_turn.table in
    let d2 = c.follow-entered.new.descent in
    let is : t2 ≡ turned c.args.by_turn t1 = elim c.if-by_turn.branch [
      | then-by_turn w ↦ w.table-is ∙ w.turn_counter.ensures ∙ ap (λ (b : Bool). turned b t1) (sym w.if-by_turn.true)
      | else-by_turn w ↦ w.table-is ∙ ap (λ (b : Bool). turned b t1) (sym w.if-by_turn.false)
    ] in
    let after : SamePages t1 t2 = subst (λ (z : Table). SamePages t1 z) (sym is) (turned_same c.args.by_turn t1) in
    let latches : (b : ℕ) → latch_at t2 b ≡ latch_at t1 b = λ b. ap (λ (z : Table). latch_at z b) is ∙ turned_latch c.args.by_turn t1 b in
    let follows = subst (λ (e : Entered). FollowsNode m t t1 d d2 seat node rest e) c.in-In.is c.follow-entered.ensures.follows in
    let carries = subst (λ (e : Entered). CarriesBelow m t t1 d d2 node rest e) c.in-In.is c.follow-entered.ensures.carries in
    let same : SamePages t t2 = same_trans t t1 t2 (follows_same m t t1 d d2 seat node rest _ c.follow-entered.ensures.follows) after in
    let st = stand_below (link_of t (tuple_place d.stand) node) in
    let (free, et, ed) = follows in
    let stands : StandsAt t (in_nulls d) st (Some (tuple_place d.stand, node)) = child_stands m t (in_nulls d) d.stand d.parent node c.requires.can.shape c.requires.can.stands c.requires.inner c.requires.chosen.0 in
    let there : IfSome (stand_block st) (λ b. b < length t.latches) = subst (λ (n : ℕ). IfSome (stand_block st) (λ b. b < n)) (sym c.page_count-count.ensures.sound.latched) (here_there m t (in_nulls d) st (Some (tuple_place d.stand, node)) c.requires.can.shape stands) in
    record {
      ok = down_out m t t1 t2 d d2 seat node rest c.requires.can.shape c.requires.inner c.requires.can.stands c.requires.chosen.0 c.requires.chosen.1 c.requires.chosen.2 follows carries after;
      told = inr (c.requires.inner, (node, rest, c.args.by_turn, c.requires.chosen.3, t1, follows, is));
      latches = λ others h. follow_holds seat others t t1 t2 d d2 st node (down_of m d.recon (frame_in (tuple_at t (tuple_place d.stand))) node) rest c.requires.inner there free et latches ed h;
      within = λ its. same_within t t2 seat same;
      ends = down_ends m t t1 t2 d d2 seat node rest c.args.by_turn c.requires.can.shape c.requires.inner c.requires.chosen.3 follows after;
      makes = same_makes t t2 same;
    }

pub returns-in-Busy-clause-does : goal.returns-in-Busy-clause-does
returns-in-Busy-clause-does g c =
    let t = c.args.table.now in
    let d = c.args.descent.now in
    let m = g.O.OpClass.meaning in
    let seat = c.args.seat in
    let node = c.args.node in
    let rest = c.args.rest in
    let t1 = c.follow-entered.new.table in
    let t2 = c.if-by_turn.table in
    let d2 = c.follow-entered.new.descent in
    let is : t2 ≡ turned c.args.by_turn t1 = elim c.if-by_turn.branch [
      | then-by_turn w ↦ w.table-is ∙ w.turn_counter.ensures ∙ ap (λ (b : Bool). turned b t1) (sym w.if-by_turn.true)
      | else-by_turn w ↦ w.table-is ∙ ap (λ (b : Bool). turned b t1) (sym w.if-by_turn.false)
    ] in
    let after : SamePages t1 t2 = subst (λ (z : Table). SamePages t1 z) (sym is) (turned_same c.args.by_turn t1) in
    let latches : (b : ℕ) → latch_at t2 b ≡ latch_at t1 b = λ b. ap (λ (z : Table). latch_at z b) is ∙ turned_latch c.args.by_turn t1 b in
    let follows = subst (λ (e : Entered). FollowsNode m t t1 d d2 seat node rest e) c.in-Busy.is c.follow-entered.ensures.follows in
    let carries = subst (λ (e : Entered). CarriesBelow m t t1 d d2 node rest e) c.in-Busy.is c.follow-entered.ensures.carries in
    let same : SamePages t t2 = same_trans t t1 t2 (follows_same m t t1 d d2 seat node rest _ c.follow-entered.ensures.follows) after in
    let (eb, held, other, et, ed) = follows in
    record {
      ok = back_out m t t1 t2 d d2 seat c.in-Busy.block c.in-Busy.by node rest follows carries after;
      told = inr (c.requires.inner, (node, rest, c.args.by_turn, c.requires.chosen.3, t1, follows, is));
      latches = λ others h. back_holds seat others t t1 t2 d d2 et latches ed h;
      within = λ its. same_within t t2 seat same;
      ends = λ n h. tt;
      makes = same_makes t t2 same;
    }

pub returns-in-In-clause-found : goal.returns-in-In-clause-found
returns-in-In-clause-found g c = named_finds g.O.OpClass.meaning c.args.table.now c.args.descent.now c.args.seat c.args.node c.args.rest c.args.by_turn c.requires.inner c.requires.chosen.3

pub returns-in-Busy-clause-found : goal.returns-in-Busy-clause-found
returns-in-Busy-clause-found g c = named_finds g.O.OpClass.meaning c.args.table.now c.args.descent.now c.args.seat c.args.node c.args.rest c.args.by_turn c.requires.inner c.requires.chosen.3
