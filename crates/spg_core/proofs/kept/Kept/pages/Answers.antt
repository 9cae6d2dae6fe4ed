use Rattle.spg_core.proofs.Bounding.{told_bounds}
use Rattle.spg_core.proofs.kept.Kept.pages.Goals as goal

pub returns-clause-bounds : goal.returns-clause-bounds
returns-clause-bounds g c = told_bounds g.O.OpClass.meaning c.self.inside c.self.invariant.0 c.self.invariant.1 c.args.self.now c.self.view_is
