use Rattle.std.proofs.Common.{drop}
use Rattle.spg_chain.specs.Listed.{leaves_in}
use Rattle.spg_move.proofs.Adding.{IsAdding}
use Rattle.spg_move.proofs.moving.put_behind.Given as goal

abbrev pub invariant-loop-leaf : goal.invariant-loop-leaf
invariant-loop-leaf l = IsAdding l.fn.page l.fn.first (leaves_in l.fn.leaves) l.page l.last (leaves_in (drop l.leaf-index l.fn.leaves))
