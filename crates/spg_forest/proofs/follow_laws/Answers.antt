use Rattle.spg_forest.proofs.Follows.{match_goes, null_goes, add_widens, split_parts}
use Rattle.spg_forest.proofs.follow_laws.Goals as goal

pub returns : goal.returns
returns g c = record { match_goes = match_goes _ g.O.OpClass.matches; null_goes = null_goes g.O.OpClass.meaning; add_widens = add_widens _ g.O.OpClass.adds; split_parts = split_parts _ g.O.OpClass.splits }
