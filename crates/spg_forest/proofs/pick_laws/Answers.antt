use Rattle.spg_forest.proofs.Divisions.{pick_goes, one_node_goes, nulls_go}
use Rattle.spg_forest.proofs.pick_laws.Goals as goal

pub returns : goal.returns
returns g c = record { pick_goes = pick_goes _ g.O.OpClass.picks; one_node_goes = one_node_goes _ g.O.OpClass.picks; nulls_go = nulls_go g.O.OpClass.meaning }
