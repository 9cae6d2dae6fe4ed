use Rattle.std.proofs.Common.{◌<◌, cond, length, false, sym, ap, ◌∙◌, arith}
use Rattle.std.specs.BTreeSet.{contains}
use Rattle.spg_base.specs.Row.{row_cmp}
use Rattle.spg_rows.specs.declared.table.RowState.TheVariants.{Swept}
use Rattle.spg_rows.specs.Table.{state_in}
use Rattle.spg_core.proofs.Sectioning.{not_yet, one_chosen, one_told}
use Rattle.spg_core.proofs.sweeping.tell_sweeps.Goals as goal

pub sweep-requires : goal.sweep-requires
sweep-requires g c =
    let there : c.loop-row.row-index < length c.args.swept.now = c.loop-row-test.true in
    let (at, was) = c.requires.killed c.row-item.result (c.loop-row.row-index, there, sym c.row-item.is) in (
      at,
      c.loop-row.invariant.2 c.row-item.result
          ∙ ap (λ b. cond b (Swept c.args.vacuum) (state_in c.args.rows.now c.row-item.result)) (not_yet c.args.swept.now c.loop-row.row-index c.row-item.result there c.row-item.is c.requires.once)
          ∙ was,
    )

pub loop-row-preserved : goal.loop-row-preserved
loop-row-preserved g c =
    let there : c.loop-row.row-index < length c.args.swept.now = c.loop-row-test.true in
    let (events, spare, states, keys, targets, low) = c.loop-row.invariant in (
      one_told c.args.swept.now c.loop-row.row-index c.row-item.result there c.row-item.is c.args.seat c.append.new.self.events c.loop-row.journal.events c.args.journal.now.events c.append.ensures.events events,
      omega (arith, c.append.ensures.spare, spare),
      one_chosen c.args.swept.now c.loop-row.row-index c.row-item.result there c.row-item.is (Swept c.args.vacuum) (state_in c.sweep.new.self) (state_in c.loop-row.rows) (state_in c.args.rows.now) c.sweep.ensures.state states,
      λ r. c.sweep.ensures.key r ∙ keys r,
      one_chosen c.args.swept.now c.loop-row.row-index c.row-item.result there c.row-item.is false (contains row_cmp c.remove.new.self.rows) (contains row_cmp c.loop-row.targets.rows) (contains row_cmp c.args.targets.now.rows) c.remove.ensures.0 targets,
      omega (arith, there),
    )
