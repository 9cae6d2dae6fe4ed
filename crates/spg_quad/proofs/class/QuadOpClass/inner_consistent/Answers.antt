use Rattle.spg_quad.specs.QuadLaws.{quad_exact}
use Rattle.spg_quad.proofs.class.QuadOpClass.inner_consistent.Goals as goal

pub returns-clause-exact : goal.returns-clause-exact
returns-clause-exact c = quad_exact c.args.recon.now c.args.tuple.now c.args.conds.now
