use Rattle.spg_chain.proofs.Shown.{one_leaf_begins}
use Rattle.spg_chain.proofs.laws.one_leaf_laws.Goals as goal

pub returns : goal.returns
returns c = one_leaf_begins
