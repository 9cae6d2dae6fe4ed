use Rattle.std.proofs.Common.{None}
use Rattle.spg_split.specs.Dividing.{nulls_divided}
use Rattle.spg_split.specs.Parting.{DividesBunch}
use Rattle.spg_split.proofs.Divided.{nulls_divide, if_ok_same}
use Rattle.spg_split.proofs.division.divide.Goals as goal

pub returns-in-None : goal.returns-in-None
returns-in-None g c = let a = nulls_divide g.O.OpClass.meaning c.args.count c.requires.several in rw c.in-None.is (if_ok_same c.divide_nulls.result (nulls_divided c.args.count) (DividesBunch g.O.OpClass.meaning None c.args.count) c.divide_nulls.ensures a)
