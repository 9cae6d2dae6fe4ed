use Rattle.std.proofs.Common.{sym, ◌∙◌, subst}
use Rattle.std.specs.BTreeSet.{contains}
use Rattle.spg_base.specs.Row.{row_cmp}
use Rattle.spg_forest.specs.Sheets.{Sheet}
use Rattle.spg_chain.specs.Chained.{IsSweptOf}
use Rattle.spg_chain.proofs.Idle.{no_rows, nothing_swept}
use Rattle.spg_chain.proofs.sweep.sweep_page.Goals.{then-root, else-root+then-not-is_empty+in_ok-sweep_leaf_page, else-root+else-not-is_empty}
use Rattle.spg_chain.proofs.sweep.sweep_page.Goals as goal

pub returns-clause-swept : goal.returns-clause-swept
returns-clause-swept c = λ e. elim c.if-root.branch [
  | then-root w ↦ let t = w.if-root.true in cc
  | else-root+then-not-is_empty+in_ok-sweep_leaf_page w ↦ subst (λ (q : Sheet). IsSweptOf (contains row_cmp c.args.targets.now.rows) c.args.page.now q) (sym w.page-is) w.in_ok-sweep_leaf_page.ensures.ok
  | else-root+else-not-is_empty w ↦ subst (λ (q : Sheet). IsSweptOf (contains row_cmp c.args.targets.now.rows) c.args.page.now q) (sym w.page-is)
      (nothing_swept (contains row_cmp c.args.targets.now.rows) c.args.page.now (c.requires e) (sym c.in_ok-rows.ensures ∙ no_rows c.in_ok-rows.rows (sym w.is_empty.ensures ∙ w.if-not-is_empty.false)))
]
