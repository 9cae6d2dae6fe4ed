use Rattle.spg_opclass.specs.InPlace.{shown}
use Rattle.spg_quad.specs.QuadLaws.{quad_exact}
use Rattle.spg_quad.proofs.class.QuadOpClass.inner_consistent_in_place.Goals as goal

pub returns-clause-exact : goal.returns-clause-exact
returns-clause-exact c = quad_exact c.args._recon.now (shown c.args.tuple.now) c.args.conds.now
