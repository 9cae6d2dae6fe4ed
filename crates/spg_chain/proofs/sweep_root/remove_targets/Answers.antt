use Rattle.std.proofs.Common.{◌+◌, sym, ◌∙◌, arith}
use Rattle.std.specs.BTreeSet.{contains}
use Rattle.spg_base.specs.Row.{row_cmp}
use Rattle.spg_chain.proofs.Removing.{removing_begun, removing_target, removing_other, removing_done}
use Rattle.spg_chain.proofs.sweep_root.remove_targets.Goals as goal

pub loop-index-init : goal.loop-index-init
loop-index-init c = removing_begun (contains row_cmp c.args.targets.now.rows) c.args.page.now

pub loop-index-preserved-then-is_target_at : goal.loop-index-preserved-then-is_target_at
loop-index-preserved-then-is_target_at c =
    let v = c.count.ensures.value in let h = c.loop-index-test.true in
    removing_target (contains row_cmp c.args.targets.now.rows) c.args.page.now c.loop-index.page c.remove.new.self c.loop-index.index (c.loop-index.index + 1) (omega arith) (omega arith) (sym c.is_target_at.ensures ∙ c.if-is_target_at.true) c.remove.ensures c.loop-index.invariant

pub loop-index-preserved : goal.loop-index-preserved
loop-index-preserved c =
    let v = c.count.ensures.value in let h = c.loop-index-test.true in
    removing_other (contains row_cmp c.args.targets.now.rows) c.args.page.now c.loop-index.page c.loop-index.index (c.loop-index.index + 1) (omega arith) (omega arith) (sym c.is_target_at.ensures ∙ c.if-is_target_at.false) c.loop-index.invariant

pub returns : goal.returns
returns c =
    let v = c.count.ensures.value in let h = c.loop-index-test.false in
    removing_done (contains row_cmp c.args.targets.now.rows) c.args.page.now c.loop-index.page c.loop-index.index (omega arith) c.loop-index.invariant
