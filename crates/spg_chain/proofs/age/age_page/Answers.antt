use Rattle.std.proofs.Common.{length, ℕ, ◌+◌, List, sym, ap, ◌∙◌, arith}
use Rattle.spg_forest.specs.Pages.{with_tuple}
use Rattle.spg_forest.specs.Tuples.{Tuple, Placeholder}
use Rattle.spg_forest.specs.Sheets.{Sheet, with_tuples}
use Rattle.spg_page.specs.Changes.{trimmed}
use Rattle.spg_chain.proofs.Ageing.{aged_length, aged_whole, aged_step}
use Rattle.spg_chain.proofs.age.age_page.Goals.{then-is_old_at, else-is_old_at}
use Rattle.spg_chain.proofs.age.age_page.Goals as goal

pub is_old_at-requires : goal.is_old_at-requires
is_old_at-requires c =
    let e = ap (λ (p : Sheet). length p.tuples) c.loop-index.invariant ∙ aged_length c.args.horizon c.loop-index.index c.args.page.now.tuples in
    let v = c.count-index-end.ensures.value in
    let h = c.loop-index-test.true in (omega arith, omega arith)

pub loop-index-preserved : goal.loop-index-preserved
loop-index-preserved c =
    let ts : List Tuple = c.args.page.now.tuples in
    let h : ℕ = c.args.horizon in
    let k : ℕ = c.loop-index.index in
    let v = c.count-index-end.ensures.value in
    let l = c.loop-index-test.true in
    let s = aged_step h k (k + 1) ts c.loop-index.page.tuples (omega arith) (ap (λ (p : Sheet). p.tuples) c.loop-index.invariant) (omega arith) in
    elim c.if-is_old_at.branch [
      | then-is_old_at w ↦ w.page-is ∙ w.put_placeholder.ensures ∙ ap (λ (p : Sheet). with_tuples p (with_tuple c.loop-index.page.tuples (k + 1) Placeholder)) c.loop-index.invariant
          ∙ ap (λ us. with_tuples c.args.page.now us) (s.1 (sym c.is_old_at.ensures ∙ w.if-is_old_at.true))
      | else-is_old_at w ↦ w.page-is ∙ c.loop-index.invariant ∙ ap (λ us. with_tuples c.args.page.now us) (sym (ap (λ (p : Sheet). p.tuples) c.loop-index.invariant) ∙ s.0 (sym c.is_old_at.ensures ∙ w.if-is_old_at.false))
    ]

pub returns-clause-tuples : goal.returns-clause-tuples
returns-clause-tuples c =
    let v = c.count-index-end.ensures.value in
    let l = c.loop-index-test.false in
    c.trim_end.ensures.tuples ∙ ap (λ (p : Sheet). with_tuples p (trimmed p.tuples)) c.loop-index.invariant ∙ ap (λ us. with_tuples c.args.page.now (trimmed us)) (aged_whole c.args.horizon c.loop-index.index c.args.page.now.tuples (omega arith))

pub returns-clause-count : goal.returns-clause-count
returns-clause-count c =
    let v = c.trim_end.ensures.count in
    let e = ap (λ (p : Sheet). length p.tuples) c.loop-index.invariant ∙ aged_length c.args.horizon c.loop-index.index c.args.page.now.tuples in
    let t = ap (λ (p : Sheet). length p.tuples) c.trim_end.ensures.tuples in
    omega arith
