use Rattle.std.proofs.Common.{◌≡◌, take}
use Rattle.spg_opclass.specs.StoredLabels.{labels_in}
use Rattle.spg_opclass.proofs.inner_ref.InnerRef.to_view.Given as goal

abbrev pub invariant-loop-node : goal.invariant-loop-node
invariant-loop-node l = l.labels ≡ take l.node (labels_in l.self.labels)
