use Rattle.std.proofs.Common.{ℕ, ◌≤◌, ◌<◌, ◌-◌, ◌+◌, ◌∷◌, [], ⊎_elim, ◌≡◌, length, inl, sym, ap, subst, refl, arith, ◌∙◌}
use Rattle.std.proofs.lemmas.Bool.{cases_lt, false≢true}
use Rattle.std.specs.BTreeSet.{contains}
use Rattle.spg_base.specs.Row.{row_cmp}
use Rattle.spg_forest.specs.Pages.{tuple_on}
use Rattle.spg_forest.specs.Sheets.{Sheet}
use Rattle.spg_tree.specs.Table.{sheets_of}
use Rattle.spg_clauses.specs.declared.reason.Reason.TheVariants as reasons
use Rattle.spg_clauses.specs.Clauses.{RowsAreNew}
use Rattle.spg_clauses.specs.Order.{Holds, fault}
use Rattle.spg_clauses.proofs.Orders.{all_blocks, first_at_block}
use Rattle.spg_survey.proofs.Earlier.{begun, no_tuples}
use Rattle.spg_survey.proofs.rows.find_row.Goals as goal

pub loop-block-init : goal.loop-block-init
loop-block-init g c = record {
  rows = begun (sheets_of c.args.table.now) c.new-rows.result.rows (λ o. ap (λ (s : Sheet). tuple_on s.tuples o) c.page_count-block-end.ensures.sound.meta ∙ no_tuples o) c.new-rows.ensures;
  new = λ b h k. absurd (omega arith);
}

pub loop-block-preserved : goal.loop-block-preserved
loop-block-preserved g c = record {
  rows = c.in_ok-rows_are_new.ensures.rows c.if-not-branch.false;
  new = λ b h k. ⊎_elim
      (λ l. c.loop-block.invariant.new b h l)
      (λ l. let e : c.loop-block.block ≡ b = omega arith in subst (λ (i : ℕ). RowsAreNew (sheets_of c.args.table.now) i) e (c.in_ok-rows_are_new.ensures.new.0 c.if-not-branch.false)) (cases_lt b c.loop-block.block);
}

pub returns-then-not-branch : goal.returns-then-not-branch
returns-then-not-branch g c =
    let n = c.page_count-block-end.ensures.value in
    first_at_block (Holds g.O.OpClass.meaning (sheets_of c.args.table.now)) (λ b. fault b reasons.Row ∷ []) (fault c.loop-block.block reasons.Row) (length c.args.table.now.pages - 1) 1 c.loop-block.block
    (let a = c.loop-block.auto.block in omega arith) (let a = c.loop-block-test.true in omega arith) (λ b h k. (c.loop-block.invariant.new b h k, tt)) (inl (refl, (λ h. false≢true (sym c.if-not-branch.true ∙ c.in_ok-rows_are_new.ensures.new.1 h))))

pub returns : goal.returns
returns g c =
    let n = c.page_count-block-end.ensures.value in
    all_blocks (Holds g.O.OpClass.meaning (sheets_of c.args.table.now)) (λ b. fault b reasons.Row ∷ []) (length c.args.table.now.pages - 1) 1
    (λ b h k. (c.loop-block.invariant.new b h (let a = c.loop-block-test.false in let s = c.page_count-block-end.ensures.sound.roots in omega arith), tt))
