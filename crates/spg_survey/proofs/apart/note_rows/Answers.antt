use Rattle.std.proofs.Common.{ℕ, ◌≡◌, ◌<◌, ◌≤◌, ◌+◌, ⊎_elim, length, ap, subst, arith}
use Rattle.std.proofs.lemmas.Bool.{cases_lt}
use Rattle.spg_forest.specs.Pages.{place}
use Rattle.spg_forest.specs.Sheets.{Sheet}
use Rattle.spg_tree.specs.Table.{sheets_of}
use Rattle.spg_survey.specs.Earlier.{among, IsNewAt}
use Rattle.spg_survey.proofs.Earlier.{over, new_all}
use Rattle.spg_survey.proofs.apart.note_rows.Goals as goal

pub loop-index-preserved : goal.loop-index-preserved
loop-index-preserved c = record {
  rows = c.in_ok-note_row.ensures.rows;
  apart = λ d. c.loop-index.invariant.apart (c.in_ok-note_row.ensures.apart d);
  new = λ d i h. ⊎_elim (λ l. c.loop-index.invariant.new (c.in_ok-note_row.ensures.apart d) i l)
      (λ l. let e : c.loop-index.index ≡ i = omega arith in subst (λ j. IsNewAt (sheets_of c.args.table.now) (place c.args.block (j + 1))) e (c.in_ok-note_row.ensures.new d)) (cases_lt i c.loop-index.index);
}

pub returns-clause-rows : goal.returns-clause-rows
returns-clause-rows c =
    over (sheets_of c.args.table.now) c.args.block c.loop-index.index (among c.loop-index.rows.items)
    (let e = ap (λ (s : Sheet). length s.tuples) c.page.ensures in let v = c.count-count.ensures.value in let a = c.loop-index-test.false in omega arith) c.loop-index.invariant.rows

pub returns-clause-new : goal.returns-clause-new
returns-clause-new c d =
    new_all (sheets_of c.args.table.now) c.args.block c.loop-index.index
    (let e = ap (λ (s : Sheet). length s.tuples) c.page.ensures in let v = c.count-count.ensures.value in let a = c.loop-index-test.false in omega arith) (c.loop-index.invariant.new d)
