use Rattle.spg_radix.specs.Keeps.{radix_exact}
use Rattle.spg_radix.proofs.radix.RadixOpClass.inner_consistent.Goals as goal

pub returns-clause-exact : goal.returns-clause-exact
returns-clause-exact c = radix_exact c.args.recon.now c.args.tuple.now c.args.conds.now c.nodes_to_visit.ensures.known
