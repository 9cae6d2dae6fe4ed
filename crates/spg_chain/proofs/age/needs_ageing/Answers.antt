use Rattle.std.proofs.Common.{◌+◌, sym, ◌∙◌, arith}
use Rattle.spg_chain.proofs.Trimming.{none_old, none_more, is_old_next, old_changes, end_changes, nothing_changes}
use Rattle.spg_chain.proofs.age.needs_ageing.Goals as goal

pub loop-index-init : goal.loop-index-init
loop-index-init c = none_old c.args.horizon c.args.page.now.tuples

pub loop-index-preserved : goal.loop-index-preserved
loop-index-preserved c = none_more c.args.horizon c.args.page.now.tuples c.loop-index.index (c.loop-index.index + 1) (omega arith) c.loop-index.invariant (sym c.is_old_at.ensures ∙ c.if-is_old_at.false)

pub returns-then-is_old_at-clause-yes : goal.returns-then-is_old_at-clause-yes
returns-then-is_old_at-clause-yes c = λ t q. old_changes c.args.horizon c.args.page.now.tuples c.loop-index.index (is_old_next c.args.horizon c.args.page.now.tuples c.loop-index.index (c.loop-index.index + 1) (omega arith) (sym c.is_old_at.ensures ∙ c.if-is_old_at.true)) q

pub returns-then-count-ne0-clause-yes : goal.returns-then-count-ne0-clause-yes
returns-then-count-ne0-clause-yes c = λ t q. let z = c.if-count-ne0.true in
    end_changes c.args.horizon c.args.page.now.tuples c.count-count.result (omega arith) c.count-count.ensures.value (sym c.is_placeholder_at.ensures ∙ t) q

pub returns-then-count-ne0-clause-no : goal.returns-then-count-ne0-clause-no
returns-then-count-ne0-clause-no c = λ t.
    let v = c.count-index-end.ensures.value in let h = c.loop-index-test.false in
    nothing_changes c.args.horizon c.args.page.now.tuples c.loop-index.index c.count-count.result (omega arith) c.count-count.ensures.value c.loop-index.invariant (sym c.is_placeholder_at.ensures ∙ t)
