use Rattle.std.proofs.Common.{sym, ap, ◌∙◌, length, ◌/◌}
use Rattle.spg_opclass.specs.StoredLabels.{labels_in}
use Rattle.spg_opclass.proofs.StoredLabelsLemmas.{labels_count}
use Rattle.spg_opclass.proofs.labels_ref.LabelsRef.len.Goals as goal

pub returns-in-Stored : goal.returns-in-Stored
returns-in-Stored c = sym (ap (λ labels. length (labels_in labels)) c.in-Stored.is ∙ labels_count (length c.in-Stored.nodes.now / 8) c.in-Stored.nodes.now)
