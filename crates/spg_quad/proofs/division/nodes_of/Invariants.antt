use Rattle.std.proofs.Common.{◌≡◌, map, take}
use Rattle.spg_points.specs.Codec.{point_of}
use Rattle.spg_quad.specs.Quad.{quadrant}
use Rattle.spg_quad.proofs.division.nodes_of.Given as goal

abbrev pub invariant-loop-rest : goal.invariant-loop-rest
invariant-loop-rest l = l.nodes ≡ map (λ r. quadrant l.c (point_of r)) (take l.rest-index l.rests)
