use Rattle.std.proofs.Common.{sym, ap, ◌∙◌}
use Rattle.std.specs.Prelude.{not}
use Rattle.std.specs.BTreeSet.{contains}
use Rattle.spg_base.specs.Row.{row_cmp}
use Rattle.spg_forest.specs.Sheets.{Sheet}
use Rattle.spg_chain.proofs.Idle.{no_rows}
use Rattle.spg_vacuum.specs.Handled.{rows_at}
use Rattle.spg_vacuum.proofs.Idle.{page_is_handled, idle_page, aged_page, none_at, some_rows, apart}
use Rattle.spg_vacuum.proofs.handle.handled_page.Goals.{then-not-is_empty, else-not-is_empty+then-not-root, else-not-is_empty+else-not-root}
use Rattle.spg_vacuum.proofs.handle.handled_page.Goals as goal

pub returns : goal.returns
returns c =
    page_is_handled c.args.root (contains row_cmp c.args.targets.now.rows) c.args.since c.args.horizon c.args.page.now c.copy_from.new.self c.change_page.new.page c.in_ok-rows.field-0.rows c.in_ok-rows.field-0.found c.if-not-is_empty.changed
    c.copy_from.ensures c.in_ok-rows.ensures.page c.in_ok-rows.ensures.tuples c.in_ok-rows.ensures.rows c.in_ok-rows.ensures.found
    (λ y n a. elim c.if-not-is_empty.branch [
      | then-not-is_empty w ↦ absurd (some_rows c.in_ok-rows.field-0.rows (sym c.is_empty.ensures ∙ w.if-not-is_empty.true) n)
      | else-not-is_empty+then-not-root w ↦ aged_page (contains row_cmp c.args.targets.now.rows) c.args.horizon c.args.page.now c.change_page.new.page.tuples c.args.root c.args.page.now.inner w.if-not-root.true c.requires
          (none_at (contains row_cmp c.args.targets.now.rows) c.args.page.now c.in_ok-rows.field-0.rows (c.in_ok-rows.ensures.rows ∙ ap (λ (s : Sheet). rows_at (contains row_cmp c.args.targets.now.rows) s) c.copy_from.ensures) n)
          (w.needs_ageing.ensures.yes (sym w.changed-is ∙ y)) a
      | else-not-is_empty+else-not-root w ↦ absurd (apart (sym (ap not w.if-not-root.false) ∙ sym w.changed-is ∙ y))
    ])
    (λ i k a. elim c.if-not-is_empty.branch [
      | then-not-is_empty w ↦ absurd (apart (sym i ∙ w.changed-is ∙ ap not w.if-not-is_empty.true))
      | else-not-is_empty+then-not-root w ↦ idle_page (contains row_cmp c.args.targets.now.rows) c.args.horizon c.args.page.now c.change_page.new.page.tuples c.args.root c.args.page.now.inner c.requires
          (none_at (contains row_cmp c.args.targets.now.rows) c.args.page.now c.in_ok-rows.field-0.rows k (no_rows c.in_ok-rows.field-0.rows (sym c.is_empty.ensures ∙ w.if-not-is_empty.false)))
          (λ r. w.needs_ageing.ensures.no (sym w.changed-is ∙ i)) a
      | else-not-is_empty+else-not-root w ↦ idle_page (contains row_cmp c.args.targets.now.rows) c.args.horizon c.args.page.now c.change_page.new.page.tuples c.args.root c.args.page.now.inner c.requires
          (none_at (contains row_cmp c.args.targets.now.rows) c.args.page.now c.in_ok-rows.field-0.rows k (no_rows c.in_ok-rows.field-0.rows (sym c.is_empty.ensures ∙ w.if-not-is_empty.false)))
          (λ r. absurd (apart (sym r ∙ w.if-not-root.false))) a
    ])
