use Rattle.std.proofs.Common.{◌+◌, sym, ◌∙◌, subst, arith}
use Rattle.std.specs.BTreeSet.{contains}
use Rattle.spg_base.specs.Row.{row_cmp}
use Rattle.spg_forest.specs.Sheets.{Sheet}
use Rattle.spg_chain.specs.Sweeps.{IsChainList, IsRenewed}
use Rattle.spg_chain.proofs.Sweeping.{Sweeping, sweeping_begun, same_led, head_chain, sweeping_head, sweeping_other}
use Rattle.spg_chain.proofs.sweep_chains.sweep_chains.Goals.{then-begins_chain+in_ok-offsets+in_ok-rewrite, else-begins_chain}
use Rattle.spg_chain.proofs.sweep_chains.sweep_chains.Goals as goal

pub loop-index-init : goal.loop-index-init
loop-index-init c = sweeping_begun (contains row_cmp c.args.targets.now.rows) c.args.page.now

pub begins_chain-requires-clause-at : goal.begins_chain-requires-clause-at
begins_chain-requires-clause-at c = let s = c.loop-index.invariant.same in let v = c.count-index-end.ensures.value in let h = c.loop-index-test.true in (omega arith, omega arith)

pub begins_chain-requires-clause-led : goal.begins_chain-requires-clause-led
begins_chain-requires-clause-led c = λ e.
    let v = c.count-index-end.ensures in let h = c.loop-index-test.true in
    c.led_offsets-led.ensures (c.loop-index.index + 1) (omega arith) (omega arith)
    ∙ sym (same_led (contains row_cmp c.args.targets.now.rows) c.args.page.now c.requires c.loop-index.page c.loop-index.index c.loop-index.invariant (c.loop-index.index + 1) (omega arith) e)

pub rewrite-requires : goal.rewrite-requires
rewrite-requires c =
    subst (λ os. IsChainList c.loop-index.page.tuples os) (sym c.as_slice.ensures)
    (head_chain (contains row_cmp c.args.targets.now.rows) c.args.page.now c.requires c.loop-index.page c.loop-index.index c.loop-index.invariant (c.loop-index.index + 1) (omega arith) (sym c.begins_chain.ensures ∙ c.if-begins_chain.true) c.in_ok-offsets.offsets c.in_ok-offsets.ensures.offsets c.in_ok-offsets.ensures.shown).0

pub loop-index-preserved : goal.loop-index-preserved
loop-index-preserved c = elim c.if-begins_chain.branch [
  | then-begins_chain+in_ok-offsets+in_ok-rewrite w ↦
      let C = head_chain (contains row_cmp c.args.targets.now.rows) c.args.page.now c.requires c.loop-index.page c.loop-index.index c.loop-index.invariant (c.loop-index.index + 1) (omega arith) (sym c.begins_chain.ensures ∙ w.if-begins_chain.true) w.in_ok-offsets.offsets w.in_ok-offsets.ensures.offsets w.in_ok-offsets.ensures.shown in
      sweeping_head (contains row_cmp c.args.targets.now.rows) c.args.page.now c.requires c.loop-index.page c.loop-index.index c.loop-index.invariant (c.loop-index.index + 1) (omega arith) (sym c.begins_chain.ensures ∙ w.if-begins_chain.true) w.in_ok-offsets.offsets C.0 C.1 c.if-begins_chain.page
      (subst (λ (q : Sheet). IsRenewed (contains row_cmp c.args.targets.now.rows) c.loop-index.page w.in_ok-offsets.offsets q) (sym w.page-is)
      (subst (λ os. IsRenewed (contains row_cmp c.args.targets.now.rows) c.loop-index.page os w.rewrite.new.page) w.as_slice.ensures w.in_ok-rewrite.ensures))
  | else-begins_chain w ↦ subst (λ (s : Sheet). Sweeping (contains row_cmp c.args.targets.now.rows) c.args.page.now s (c.loop-index.index + 1)) (sym w.page-is)
      (sweeping_other (contains row_cmp c.args.targets.now.rows) c.args.page.now c.requires c.loop-index.page c.loop-index.index c.loop-index.invariant (c.loop-index.index + 1) (omega arith) (sym c.begins_chain.ensures ∙ w.if-begins_chain.false))
]
