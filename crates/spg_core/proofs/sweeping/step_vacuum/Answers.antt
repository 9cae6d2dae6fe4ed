use Rattle.std.proofs.Common.{sym, ap, ◌∙◌}
use Rattle.std.specs.BTreeSet.{contains}
use Rattle.spg_base.specs.Row.{row_cmp}
use Rattle.spg_core.proofs.Sectioning.{IsTold, block_told, pending_told}
use Rattle.spg_core.proofs.sweeping.step_vacuum.Given.{Over}
use Rattle.spg_core.proofs.sweeping.step_vacuum.Goals as goal
use Rattle.spg_core.proofs.sweeping.step_vacuum.Goals.{In-Swept, in-Block+in_ok-block_section-in-Block, in-Pending+in_ok-pending_section-in-Pending}

told : (g : Over) (c : In-Swept g) → IsTold g.O.OpClass.meaning c.args.table.now (contains row_cmp c.args.targets.now.rows) c.requires.shape c.args.vacuum.now c.args.horizon c.args.seat c.match-work.table c.match-work.vacuum c.match-work.out.0 c.in-Swept.rows
told g c = elim c.match-work.branch [
  | in-Block+in_ok-block_section-in-Block w ↦
      block_told g.O.OpClass.meaning c.args.table.now (contains row_cmp c.args.targets.now.rows) c.requires.shape c.args.vacuum.now c.args.horizon c.args.seat
      w.block_section.new.table c.match-work.table w.block_section.new.self c.match-work.vacuum c.match-work.out.0 w.in_ok-block_section-in-Block.field-0 c.in-Swept.rows
      w.table-is w.vacuum-is (ap (λ x. x.0) w.out-is) (sym (ap (λ x. x.1) w.out-is) ∙ c.in-Swept.is) (sym c.work.ensures ∙ w.in-Block.is) w.in_ok-block_section-in-Block.ensures.done w.in_ok-block_section-in-Block.ensures.keeps
  | in-Pending+in_ok-pending_section-in-Pending w ↦
      pending_told g.O.OpClass.meaning c.args.table.now (contains row_cmp c.args.targets.now.rows) c.requires.shape c.args.vacuum.now c.args.horizon c.args.seat
      w.pending_section.new.table c.match-work.table w.pending_section.new.self c.match-work.vacuum c.match-work.out.0 w.in_ok-pending_section-in-Pending.field-0 c.in-Swept.rows
      w.table-is w.vacuum-is (ap (λ x. x.0) w.out-is) (sym (ap (λ x. x.1) w.out-is) ∙ c.in-Swept.is) (sym c.work.ensures ∙ w.in-Pending.is) w.in_ok-pending_section-in-Pending.ensures.done w.in_ok-pending_section-in-Pending.ensures.keeps
]

pub returns-in-Swept-clause-ok : goal.returns-in-Swept-clause-ok
returns-in-Swept-clause-ok g c = (told g c).0

pub returns-in-Swept-clause-keeps : goal.returns-in-Swept-clause-keeps
returns-in-Swept-clause-keeps g c = (told g c).1

pub returns-in-Swept-clause-few : goal.returns-in-Swept-clause-few
returns-in-Swept-clause-few g c = (told g c).2
