use Rattle.spg_kd.specs.KdLaws.{kd_exact}
use Rattle.spg_kd.proofs.class.KdOpClass.inner_consistent.Goals as goal

pub returns-clause-exact : goal.returns-clause-exact
returns-clause-exact c = kd_exact c.args.recon.now c.args.tuple.now c.args.conds.now
