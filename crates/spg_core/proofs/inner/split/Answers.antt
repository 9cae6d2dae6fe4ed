use Rattle.std.proofs.Common.{rules, ap, inl, inr}
use Rattle.spg_move.specs.Splits.{lower_want_at}
use Rattle.spg_tree.specs.Descents.{Descending}
use Rattle.spg_core.proofs.Inners.{inner_root}
use Rattle.spg_core.proofs.Limits.{full_near}
use Rattle.spg_core.proofs.Ticks.{split_ticks}
use Rattle.spg_core.proofs.Finds.{split_finds}
use Rattle.spg_core.proofs.Refusals.{done_so}
use Rattle.spg_core.specs.declared.answer.InsertOut.TheVariants as outs
use Rattle.spg_core.proofs.inner.split.Goals as goal

pub returns-clause-does : goal.returns-clause-does
returns-clause-does g c =
    let done = c.in_ok-split_tuple.ensures in
    record {
      told = inl (c.requires.inner, c.requires.main, inr (c.args.upper_prefix.now, c.args.upper_labels.now, c.args.child, c.args.lower_prefix.now, c.requires.answer, done.ok, done.table));
      exact = done.exact;
      held = done.held;
      stood = inl (ap (λ (x : Descending _). x.stand) done.ok.after);
    }

pub returns-in_err-split_tuple-clause-refused : goal.returns-in_err-split_tuple-clause-refused
returns-in_err-split_tuple-clause-refused g c =
    let m = g.O.OpClass.meaning in
    let t = c.args.table.now in
    let d = c.args.descent.now in
    let grown = inner_root m t d c.requires.can.shape c.requires.can.stands c.requires.inner in
    record {
      full = λ h. (inl grown, full_near t (lower_want_at t d c.args.lower_prefix.now c.args.seat) (c.in_err-split_tuple.ensures.full (search rules)).1);
      clock = λ h. absurd (c.in_err-split_tuple.ensures.clock (search rules));
      full_where = λ h.
          let none = c.in_err-split_tuple.ensures.full (search rules) in
          inr (inr (inr (c.requires.inner, inr (c.args.upper_prefix.now, c.args.upper_labels.now, c.args.child, c.args.lower_prefix.now, c.requires.answer, none.0, none.1))));
      clock_where = λ h. absurd (c.in_err-split_tuple.ensures.clock (search rules));
      clock_first = λ ticks last. absurd (split_ticks m t d c.args.upper_prefix.now c.args.upper_labels.now c.args.child c.args.lower_prefix.now c.requires.inner c.requires.answer ticks);
      not_full = search rules;
      err = search rules;
      err_descent = search rules;
    }

pub returns-clause-refused : goal.returns-clause-refused
returns-clause-refused g c =
    let m = g.O.OpClass.meaning in
    let t = c.args.table.now in
    let d = c.args.descent.now in
    done_so _ _ _ _ _ _ outs.Restructured (λ ticks last. split_ticks m t d c.args.upper_prefix.now c.args.upper_labels.now c.args.child c.args.lower_prefix.now c.requires.inner c.requires.answer ticks)
    (split_finds m t d c.args.seat c.args.upper_prefix.now c.args.upper_labels.now c.args.child c.args.lower_prefix.now c.requires.inner c.requires.answer c.in_ok-split_tuple.ensures.not_full)
