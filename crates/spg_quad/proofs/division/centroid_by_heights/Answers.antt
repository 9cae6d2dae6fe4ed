use Rattle.std.proofs.Common.{rules, arith}
use Rattle.std.proofs.lemmas.Int.{to_z-of_z}
use Rattle.std.proofs.lemmas.Grind.{common_steps}
use Rattle.spg_quad.specs.Quad.{centroid_of, ceiling_by}
use Rattle.spg_quad.proofs.division.centroid_by_heights.Goals as goal

pub returns : goal.returns
unfolding centroid_of ceiling_by
returns c = grind (arith, common_steps, to_z-of_z)
