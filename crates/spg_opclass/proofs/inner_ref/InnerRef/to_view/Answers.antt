use Rattle.std.proofs.Common.{ℤ, ◌++◌, ◌∷◌, [], List, take, sym, ap, ◌∙◌}
use Rattle.std.proofs.lemmas.List.{take_more}
use Rattle.std.proofs.lemmas.Option.{slice_get_within, get_or_from_slice_get}
use Rattle.std.specs.Int.{w16}
use Rattle.std.proofs.lemmas.Int.{to_z-of_z}
use Rattle.spg_opclass.specs.StoredLabels.{labels_in}
use Rattle.spg_opclass.proofs.inner_ref.InnerRef.to_view.Goals as goal

pub loop-node-preserved : goal.loop-node-preserved
loop-node-preserved c =
    let xs : List ℤ = labels_in c.args.self.now.labels in
    let n = c.loop-node.node in
    let x = c.at.result in
    (rw (to_z-of_z w16 x (record { sfits = c.at.type_inv })) at c.in_ok-push.ensures.ok) ∙ ap (λ ys. ys ++ x ∷ []) c.loop-node.invariant
    ∙ sym (take_more xs n x (slice_get_within xs n x c.at.ensures) ∙ ap (λ y. take n xs ++ y ∷ []) (get_or_from_slice_get xs n x x c.at.ensures))
