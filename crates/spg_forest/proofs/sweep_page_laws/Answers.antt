use Rattle.spg_forest.proofs.Changes.{sweeps_leaves, ages_redirects, sweeps_page}
use Rattle.spg_forest.proofs.sweep_page_laws.Goals as goal

pub returns : goal.returns
returns g c = record { leaves = sweeps_leaves _; redirects = ages_redirects _; both = sweeps_page _ }
