use Rattle.spg_walks.proofs.Walks.{each_has_a_walk}
use Rattle.spg_walks.proofs.walk_laws.Goals as goal

pub returns : goal.returns
returns g c = each_has_a_walk g.O.OpClass.meaning g.O.OpClass.keeps g.O.OpClass.codes
