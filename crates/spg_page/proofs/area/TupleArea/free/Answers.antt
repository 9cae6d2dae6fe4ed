use Rattle.std.proofs.Common.{arith}
use Rattle.spg_page.proofs.Areas.{known}
use Rattle.spg_page.proofs.area.TupleArea.free.Goals as goal

pub overflow_add-result : goal.overflow_add-result
overflow_add-result c = let v = known c.self.invariant c.self.view_is in omega (arith, v.gap, v.top, c.gap.ensures)

pub overflow_mul-result : goal.overflow_mul-result
overflow_mul-result c = let v = known c.self.invariant c.self.view_is in omega (arith, v.empties_bound, v.bound)
