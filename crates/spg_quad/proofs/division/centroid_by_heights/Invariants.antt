use Rattle.std.proofs.Common.{◌≡◌, ◌<◌, ◌*◌, ◌^◌, ◌≤◌, take, sum_by}
use Rattle.spg_points.specs.Codec.{point_of}
use Rattle.spg_points.specs.Heights.{raised}
use Rattle.spg_quad.proofs.division.centroid_by_heights.Given as goal

abbrev pub invariant-loop-rest : goal.invariant-loop-rest
invariant-loop-rest l = record {
  x_is : l.x_sum ≡ sum_by (λ r. raised (point_of r).x) (take l.rest-index l.rests);
  y_is : l.y_sum ≡ sum_by (λ r. raised (point_of r).y) (take l.rest-index l.rests);
  x_bound : l.x_sum ≤ l.rest-index * 4294967295;
  y_bound : l.y_sum ≤ l.rest-index * 4294967295;
}
