use Rattle.std.proofs.Common.{ℕ, ◌≡◌, ◌≤◌, ◌<◌, ◌+◌, ⊎_elim, refl, sym, ap, ◌∙◌, subst, arith}
use Rattle.std.proofs.lemmas.Bool.{cases_lt}
use Rattle.spg_forest.specs.Pages.{tuple_on}
use Rattle.spg_forest.specs.Sheets.{Sheet}
use Rattle.spg_tree.specs.Table.{sheets_of}
use Rattle.spg_clauses.specs.Clauses.{RowsAreNew}
use Rattle.spg_survey.specs.Earlier.{among}
use Rattle.spg_survey.proofs.Earlier.{begun_with, no_tuples}
use Rattle.spg_survey.proofs.apart.rows_of.Goals as goal

pub loop-block-init : goal.loop-block-init
loop-block-init c = record {
  rows = begun_with (sheets_of c.args.table.now) (among c.new-rows.result.items) (λ o. ap (λ (s : Sheet). tuple_on s.tuples o) c.page_count-block-end.ensures.sound.meta ∙ no_tuples o) (λ r. ap (λ xs. among xs r) c.new-rows.ensures.items);
  new = λ d b h k. absurd (omega arith);
}

pub loop-block-preserved : goal.loop-block-preserved
loop-block-preserved c = record {
  rows = c.in_ok-note_rows.ensures.rows;
  new = λ d b h k. ⊎_elim
      (λ l. c.loop-block.invariant.new (c.in_ok-note_rows.ensures.apart d) b h l)
      (λ l. let e : c.loop-block.block ≡ b = omega arith in subst (λ (i : ℕ). RowsAreNew (sheets_of c.args.table.now) i) e (c.in_ok-note_rows.ensures.new d)) (cases_lt b c.loop-block.block);
}

pub returns : goal.returns
returns c d b h k = c.loop-block.invariant.new d b h (let n = c.page_count-block-end.ensures.value in let a = c.loop-block-test.false in omega arith)
