use Rattle.std.proofs.Common.{length, ap, sym, ◌∙◌, arith}
use Rattle.std.proofs.lemmas.Int.{to_z-of_z}
use Rattle.std.specs.Int.{w16}
use Rattle.spg_opclass.specs.Meaning.{eightfold}
use Rattle.spg_split.specs.Nodes.{turns}
use Rattle.spg_split.proofs.Divided.{node_below, several_at, in_one_at}
use Rattle.spg_split.proofs.division.divide_picked.Goals as goal

pub label_at-label-requires : goal.label_at-label-requires
label_at-label-requires g c =
    node_below g.O.OpClass.meaning g.O.OpClass.picks c.args.recon.now c.args.rests.now c.requires.several c.requires.keys c.in_ok-divided.divided c.as_slice.result.now c.in-Some.node c.in_ok-divided.ensures c.as_slice.ensures c.in-Some.ensures

pub returns-in-None : goal.returns-in-None
returns-in-None g c =
    several_at g.O.OpClass.meaning g.O.OpClass.picks c.args.recon.now c.args.rests.now c.requires.several c.requires.keys c.in_ok-divided.divided c.as_slice.result.now c.in_ok-divided.ensures c.as_slice.ensures c.in-None.ensures

pub returns-in_ok-nodes_in_turn-in-Some : goal.returns-in_ok-nodes_in_turn-in-Some
returns-in_ok-nodes_in_turn-in-Some g c =
    in_one_at g.O.OpClass.meaning g.O.OpClass.picks c.args.recon.now c.args.rests.now c.requires.several c.requires.keys c.in_ok-divided.divided c.as_slice.result.now c.in-Some.node c.label_at-label.result c.in_ok-all_the_same-in-Some.field-0 c.in_ok-nodes_in_turn-in-Some.field-0
    c.in_ok-divided.ensures c.as_slice.ensures c.in-Some.ensures c.label_at-label.ensures.value (c.in_ok-all_the_same-in-Some.ensures ∙ ap (eightfold c.in_ok-divided.divided.prefix) (to_z-of_z w16 c.label_at-label.result c.label_at-label.ensures.in_range)) c.in_ok-nodes_in_turn-in-Some.ensures
