use Rattle.spg_opclass.specs.InPlace.{shown}
use Rattle.spg_kd.specs.KdLaws.{kd_exact}
use Rattle.spg_kd.proofs.class.KdOpClass.inner_consistent_in_place.Goals as goal

pub returns-clause-exact : goal.returns-clause-exact
returns-clause-exact c = kd_exact c.args.recon.now (shown c.args.tuple.now) c.args.conds.now
