use Rattle.spg_quad.specs.QuadLemmas.{centroid_x, centroid_y}
use Rattle.spg_quad.proofs.division.centroid.Goals as goal

pub returns-clause-x_ceiling : goal.returns-clause-x_ceiling
returns-clause-x_ceiling c = rw c.centroid_by_heights.ensures (centroid_x c.args.rests.now c.requires)

pub returns-clause-y_ceiling : goal.returns-clause-y_ceiling
returns-clause-y_ceiling c = rw c.centroid_by_heights.ensures (centroid_y c.args.rests.now c.requires)
