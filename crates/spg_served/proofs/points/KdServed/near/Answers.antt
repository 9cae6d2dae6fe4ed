use Rattle.std.proofs.Common.{refl}
use Rattle.spg_kd.specs.Kd.{kd_meaning}
use Rattle.spg_near.specs.PointClasses.{kd_below, kd_cuts, kd_narrows}
use Rattle.spg_served.proofs.Serving.{serves}
use Rattle.spg_served.proofs.points.KdServed.near.Goals as goal

pub returns-clause-ok : goal.returns-clause-ok
returns-clause-ok c =
    serves kd_meaning kd_below kd_cuts kd_narrows (λ q. refl) (λ q h. h) c.args.state.now c.find_nearest.new.state c.args.seat c.args.target c.args.limit c.in_ok-found.found.rows c.in_ok-found.found.met c.pages.ensures.represents.shape c.in_ok-found.ensures.ok
