use Rattle.std.proofs.Common.{arith}
use Rattle.spg_page.proofs.Areas.{known}
use Rattle.spg_page.proofs.area.TupleArea.placeholders.Goals as goal

pub returns-clause-value : goal.returns-clause-value
returns-clause-value c = let v = known c.self.invariant c.self.view_is in v.empties

pub returns-clause-bound : goal.returns-clause-bound
returns-clause-bound c = let v = known c.self.invariant c.self.view_is in omega (arith, v.empties_bound, v.bound)
