use Rattle.std.proofs.Common.{◌≡◌, take}
use Rattle.spg_opclass.specs.StoredLabels.{labels_in}
use Rattle.spg_core.proofs.comparing.are_labels.Given as goal

abbrev pub invariant-loop-node : goal.invariant-loop-node
invariant-loop-node l = take l.node (labels_in l.labels) ≡ take l.node l.copied
