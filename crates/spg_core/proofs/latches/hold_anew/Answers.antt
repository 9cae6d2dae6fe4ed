use Rattle.std.proofs.Common.{sym, subst}
use Rattle.spg_tree.specs.Table.{Table}
use Rattle.spg_core.specs.Telling.{IsButLatches}
use Rattle.spg_core.proofs.Settles.{but_trans, released_but}
use Rattle.spg_core.proofs.latches.hold_anew.Goals as goal

pub returns-clause-table : goal.returns-clause-table
returns-clause-table g c =
    let t1 = c.latch.new.table in
    but_trans c.args.table.now t1 c.give_free.new.table c.latch.ensures.table (subst (λ (z : Table). IsButLatches t1 z) (sym c.give_free.ensures) (released_but t1 c.left_block-left.result c.args.seat))
