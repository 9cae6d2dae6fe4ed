use Rattle.std.proofs.Common.{◌≡◌, ◌<◌, ℤ, pos, List, length, get_or, sym, ◌∙◌, rules, FitsSigned}
use Rattle.std.specs.Int.{w16}
use Rattle.std.proofs.lemmas.Int.{to_z-of_z}
use Rattle.std.proofs.lemmas.List.{take_more_same}
use Rattle.std.proofs.lemmas.Option.{slice_get_within, slice_get-get_or, get_or_from_slice_get}
use Rattle.spg_opclass.specs.StoredLabels.{labels_in}
use Rattle.spg_core.proofs.comparing.are_labels.Goals as goal

pub loop-node-preserved : goal.loop-node-preserved
loop-node-preserved c =
    let xs : List ℤ = labels_in c.args.labels in
    let ys : List ℤ = c.args.copied.now in
    let k = c.loop-node.node in
    let x = c.at.result in
    let y = get_or ys k (pos 0) in
    let there : k < length ys = c.loop-node-test.true in
    let fx : FitsSigned w16 x = record { sfits = c.at.type_inv } in
    let fy : FitsSigned w16 y = search rules in
    let e = c.is_label.ensures.0 c.if-not-is_label.false in
    let same : x ≡ y = sym (to_z-of_z w16 x fx) ∙ e ∙ to_z-of_z w16 y fy in
    let other : y ≡ get_or ys k x = (let f = slice_get-get_or ys k x there in let z = slice_get-get_or ys k (pos 0) there in cc) in
    take_more_same xs ys k x (slice_get_within xs k x c.at.ensures) there c.loop-node.invariant (get_or_from_slice_get xs k x x c.at.ensures ∙ same ∙ other)
