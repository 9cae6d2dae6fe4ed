use Rattle.std.proofs.Common.{sym, arith}
use Rattle.spg_page.proofs.Areas.{known}
use Rattle.spg_page.proofs.area.TupleArea.count.Goals as goal

pub returns-clause-value : goal.returns-clause-value
returns-clause-value c = let v = known c.self.invariant c.self.view_is in sym v.count

pub returns-clause-bound : goal.returns-clause-bound
returns-clause-bound c = let v = known c.self.invariant c.self.view_is in v.bound

pub returns-clause-fits : goal.returns-clause-fits
returns-clause-fits c = let v = known c.self.invariant c.self.view_is in omega (arith, v.used_is)
