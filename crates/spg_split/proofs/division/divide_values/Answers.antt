use Rattle.std.proofs.Common.{◌≤◌, length, ap, sym, ◌∙◌, arith}
use Rattle.std.proofs.lemmas.Int.{to_z-of_z}
use Rattle.std.specs.Int.{w16}
use Rattle.spg_opclass.specs.Meaning.{eightfold}
use Rattle.spg_split.specs.Nodes.{turns}
use Rattle.spg_split.proofs.Divided.{keys_given, node_below, several_at, in_one_at}
use Rattle.spg_split.proofs.division.divide_values.Goals as goal

pub label_at-label-requires : goal.label_at-label-requires
label_at-label-requires g c =
    let T : 2 ≤ length c.args.parted.now.rests = let a = c.requires.count in let b = c.requires.several in omega arith in
    let K = keys_given g.O.OpClass.meaning c.args.parted.now.recon c.args.parted.now.rests c.picked.ensures.known in
    let E = c.in_ok-picked.ensures ∙ c.picked.ensures.value in
    node_below g.O.OpClass.meaning g.O.OpClass.picks c.args.parted.now.recon c.args.parted.now.rests T K c.in_ok-picked.picked c.as_slice.result.now c.in-Some.node E c.as_slice.ensures c.in-Some.ensures

pub returns-in-None : goal.returns-in-None
returns-in-None g c =
    let T : 2 ≤ length c.args.parted.now.rests = let a = c.requires.count in let b = c.requires.several in omega arith in
    let K = keys_given g.O.OpClass.meaning c.args.parted.now.recon c.args.parted.now.rests c.picked.ensures.known in
    let E = c.in_ok-picked.ensures ∙ c.picked.ensures.value in
    several_at g.O.OpClass.meaning g.O.OpClass.picks c.args.parted.now.recon c.args.parted.now.rests T K c.in_ok-picked.picked c.as_slice.result.now E c.as_slice.ensures c.in-None.ensures

pub returns-in_ok-nodes_in_turn-in-Some : goal.returns-in_ok-nodes_in_turn-in-Some
returns-in_ok-nodes_in_turn-in-Some g c =
    let T : 2 ≤ length c.args.parted.now.rests = let a = c.requires.count in let b = c.requires.several in omega arith in
    let K = keys_given g.O.OpClass.meaning c.args.parted.now.recon c.args.parted.now.rests c.picked.ensures.known in
    let E = c.in_ok-picked.ensures ∙ c.picked.ensures.value in
    in_one_at g.O.OpClass.meaning g.O.OpClass.picks c.args.parted.now.recon c.args.parted.now.rests T K c.in_ok-picked.picked c.as_slice.result.now c.in-Some.node c.label_at-label.result c.in_ok-all_the_same-in-Some.field-0 c.in_ok-nodes_in_turn-in-Some.field-0
    E c.as_slice.ensures c.in-Some.ensures c.label_at-label.ensures.value (c.in_ok-all_the_same-in-Some.ensures ∙ ap (eightfold c.in_ok-picked.picked.prefix) (to_z-of_z w16 c.label_at-label.result c.label_at-label.ensures.in_range)) (c.in_ok-nodes_in_turn-in-Some.ensures ∙ ap turns (sym c.requires.count))
