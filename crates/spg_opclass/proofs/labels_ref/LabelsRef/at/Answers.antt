use Rattle.std.proofs.Common.{◌/◌, ◌<◌, ap, sym, subst, rules, ◌∙◌, length, Some, slice_get, get_or, pos, FitsSigned}
use Rattle.std.specs.Int.{w16}
use Rattle.std.proofs.lemmas.Int.{to_z-of_z}
use Rattle.std.proofs.lemmas.Option.{slice_get-get_or}
use Rattle.spg_opclass.specs.StoredLabels.{labels_in}
use Rattle.spg_opclass.proofs.StoredLabelsLemmas.{labels_count, has_label, within}
use Rattle.spg_opclass.proofs.labels_ref.LabelsRef.at.Goals as goal

pub label_in-requires : goal.label_in-requires
label_in-requires c = within c.in-Stored.nodes.now c.args.node (subst (λ labels. c.args.node < length (labels_in labels)) c.in-Stored.is c.requires)

pub returns-in-Listed : goal.returns-in-Listed
returns-in-Listed c =
    let ls = c.in-Listed.labels.now in
    let x = get_or ls c.args.node (pos 0) in
    let fits : FitsSigned w16 x = search rules in
    let low = subst (λ labels. c.args.node < length (labels_in labels)) c.in-Listed.is c.requires in
    ap (λ labels. slice_get (labels_in labels) c.args.node) c.in-Listed.is ∙ slice_get-get_or ls c.args.node (pos 0) low ∙ ap Some (sym (to_z-of_z w16 x fits))

pub returns-in-Stored : goal.returns-in-Stored
returns-in-Stored c =
    let nodes = c.in-Stored.nodes.now in
    let low = subst (λ labels. c.args.node < length (labels_in labels)) c.in-Stored.is c.requires in
    let there = has_label (length nodes / 8) nodes c.args.node (subst (λ n. c.args.node < n) (labels_count (length nodes / 8) nodes) low) in
    ap (λ labels. slice_get (labels_in labels) c.args.node) c.in-Stored.is ∙ there ∙ ap Some (sym c.label_in.ensures ∙ sym (to_z-of_z w16 c.label_in.result (record { sfits = c.label_in.type_inv })))
