use Rattle.std.proofs.Common.{length, ap, ◌∙◌, arith}
use Rattle.spg_tree.specs.Table.{Table}
use Rattle.spg_standby.proofs.Kept.{none_there}
use Rattle.spg_standby.proofs.queue.filled.Goals as goal

pub of_none-requires : goal.of_none-requires
of_none-requires g c =
    let touched = c.touched.ensures ∙ ap (λ (t : Table). t.touched) c.pages.ensures.value in
    none_there c.args.state.now.table.touched (let a = c.len.ensures.value in let b = ap (λ xs. length xs) touched in let d = c.if-len-eq0.true in omega arith)
