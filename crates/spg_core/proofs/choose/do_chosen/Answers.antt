use Rattle.std.proofs.Common.{◌≡◌, ◌<◌, ℕ, Bool, true, List, Some, length, get_or, sym, ap, ◌∙◌, subst, arith}
use Rattle.spg_opclass.specs.Copies.{AtTuple, answer_at, recons_at}
use Rattle.spg_opclass.specs.declared.view.InnerView.{InnerView}
use Rattle.spg_opclass.specs.declared.view.Choice.TheVariants.{Match}
use Rattle.spg_core.specs.Stepping.{named}
use Rattle.spg_core.proofs.Looks.{at_of, at_there, below_is, turn_there, to_follow}
use Rattle.spg_core.proofs.choose.do_chosen.Given.{Over}
use Rattle.spg_core.proofs.choose.do_chosen.Goals as goal
use Rattle.spg_core.proofs.choose.do_chosen.Goals.{After-as_slice, then-all_same, else-all_same}

-- the tuple of the copy
tuple_is : (g : Over) (c : After-as_slice g) → c.tuple.result.now ≡ c.args.chosen.now.tuple
tuple_is g c = c.tuple.ensures.value ∙ ap (λ (x : AtTuple _). x.tuple) c.spotted.ensures.value

-- what the class answered
answer_is : (g : Over) (c : After-as_slice g) → answer_at g.O.OpClass.meaning c.args.chosen.now ≡ Match c.in-Match.node c.in-Match.rest
answer_is g c = sym c.choice.ensures.value ∙ c.in-Match.is

at_is : (g : Over) (c : After-as_slice g) → c.if-all_same.at ≡ at_of c.args.chosen.now.tuple.all_same c.counter-turn.result
at_is g c =
    let same = ap (λ (v : InnerView). v.all_same) (tuple_is g c) in
    elim c.if-all_same.branch [
      | then-all_same w ↦ w.at-is ∙ w.from-at.ensures ∙ ap (λ (b : Bool). at_of b c.counter-turn.result) (sym w.if-all_same.true ∙ same)
      | else-all_same w ↦ w.at-is ∙ ap (λ (b : Bool). at_of b c.counter-turn.result) (sym w.if-all_same.false ∙ same)
    ]

-- the node that the counter names is there
turns : (g : Over) (c : After-as_slice g) → c.args.chosen.now.tuple.all_same ≡ true → c.counter-turn.result < length c.args.chosen.now.tuple.labels
turns g c same =
    let (key, C) = c.requires.can.of_key in
    subst (λ (n : ℕ). n < length c.args.chosen.now.tuple.labels) (sym c.counter-turn.ensures.value)
    (turn_there g.O.OpClass.meaning g.O.OpClass.matches c.args.table.now c.args.descent.now c.requires.can.shape c.requires.can.stands key C c.args.chosen.now c.requires.spotted c.counter-turn.ensures.in_range same)

within : (g : Over) (c : After-as_slice g) → c.if-all_same.at < length c.as_slice.result.now
within g c =
    let x = c.args.chosen.now in
    let there = at_there g.O.OpClass.meaning x c.counter-turn.result c.in-Match.node c.in-Match.rest (answer_is g c) (turns g c) in
    subst (λ (i : ℕ). i < length c.as_slice.result.now) (sym (at_is g c)) (subst (λ (l : List _). at_of x.tuple.all_same c.counter-turn.result < length l) (sym (c.as_slice.ensures ∙ c.recons.ensures.value)) there)

pub offset_bounds-as_slice-at : goal.offset_bounds-as_slice-at
offset_bounds-as_slice-at g c = omega (arith, within g c)

pub bounds-as_slice-at : goal.bounds-as_slice-at
bounds-as_slice-at g c = within g c

pub go_down-requires-clause-chosen : goal.go_down-requires-clause-chosen
go_down-requires-clause-chosen g c =
    let m = g.O.OpClass.meaning in
    let t = c.args.table.now in
    let x = c.args.chosen.now in
    let turn = c.counter-turn.result in
    let h = (goal.at.go_down-requires-clause-chosen g c).After-as_slice in
    let (key, C) = c.requires.can.of_key in
    let read = c.index-as_slice-at.result in
    let named_by : c.named-node.result ≡ named turn x.tuple c.in-Match.node = c.named-node.ensures ∙ ap (λ (v : InnerView). named turn v c.in-Match.node) (tuple_is g h) in
    let below = c.in_ok-below-in-Match.ensures ∙ c.index-as_slice-at.is ∙ ap (λ (l : List _). get_or l c.if-all_same.at read) (c.as_slice.ensures ∙ c.recons.ensures.value) ∙ ap (λ (i : ℕ). get_or (recons_at m x) i read) (at_is g h)
    ∙ below_is m x turn c.in-Match.node c.in-Match.rest (answer_is g h) (turns g h) read ∙ ap (λ (k : ℕ). m.down x.recon x.tuple k) (sym named_by) in
    to_follow m g.O.OpClass.matches t c.args.descent.now c.requires.can.shape c.requires.can.stands key C x c.requires.spotted c.in-Match.node c.named-node.result c.in_ok-rest-in-Match.rest c.tuple.result.now.all_same (Some c.in_ok-below-in-Match.below)
    c.counter-turn.ensures.in_range
    (answer_is g h ∙ ap (λ (r : List ℕ). Match c.in-Match.node r) (sym c.in_ok-rest-in-Match.ensures))
    (named_by ∙ ap (λ (k : ℕ). named k x.tuple c.in-Match.node) c.counter-turn.ensures.value)
    (ap (λ (v : InnerView). v.all_same) (tuple_is g h))
    (ap Some below)
