use Rattle.std.proofs.Common.{◌≡◌}
use Rattle.spg_points.specs.Areas.{kept_by}
use Rattle.spg_points.proofs.nodes.kept_nodes.Given as goal

abbrev pub invariant-loop-node : goal.invariant-loop-node
invariant-loop-node g l = l.kept.items ≡ kept_by (g.A.NodeAreas.area_of_node l.areas) l.conds l.node
