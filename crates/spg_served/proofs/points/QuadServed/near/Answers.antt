use Rattle.std.proofs.Common.{refl}
use Rattle.spg_quad.specs.Quad.{quad_meaning}
use Rattle.spg_near.specs.PointClasses.{quad_below, quad_cuts, quad_narrows}
use Rattle.spg_served.proofs.Serving.{serves}
use Rattle.spg_served.proofs.points.QuadServed.near.Goals as goal

pub returns-clause-ok : goal.returns-clause-ok
returns-clause-ok c =
    serves quad_meaning quad_below quad_cuts quad_narrows (λ q. refl) (λ q h. h) c.args.state.now c.find_nearest.new.state c.args.seat c.args.target c.args.limit c.in_ok-found.found.rows c.in_ok-found.found.met c.pages.ensures.represents.shape c.in_ok-found.ensures.ok
