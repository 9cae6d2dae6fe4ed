use Rattle.spg_cover.proofs.Elsewhere.{kept_by_adds, kept_by_leaves}
use Rattle.spg_cover.proofs.others_laws.Goals as goal

pub returns : goal.returns
returns g c = record { adds = kept_by_adds _; leaves = kept_by_leaves _ }
