use Rattle.std.proofs.Common.{rules, inl, inr, refl}
use Rattle.spg_core.proofs.Moves.{at_chain, not_empty, moves_below, below_root}
use Rattle.spg_core.proofs.Limits.{full_near}
use Rattle.spg_core.proofs.Finds.{move_finds}
use Rattle.spg_core.proofs.Refusals.{not_err, done_so}
use Rattle.spg_core.specs.declared.answer.InsertOut.TheVariants as outs
use Rattle.spg_tree.specs.declared.stand.StepRefused.TheVariants.{ClockFull}
use Rattle.spg_move.specs.Moves.{carried_want}
use Rattle.spg_core.proofs.insert.move_away.Goals as goal

pub move_chain-requires-clause-spot : goal.move_chain-requires-clause-spot
move_chain-requires-clause-spot g c =
    let t = c.args.table.now in
    let d = c.args.descent.now in
    let (off, room, short) = c.requires.rule in
    at_chain t d c.requires.can.stands off (moves_below t d short) (not_empty t d room)

pub returns-clause-does : goal.returns-clause-does
returns-clause-does g c =
    let done = c.in_ok-move_chain.ensures in
    record { told = (refl, inr (inl (c.requires.rule, done.ok, done.ticked, done.makes, done.table))); exact = done.exact; held = done.held; stood = inl refl }

pub returns-in_err-move_chain-clause-refused : goal.returns-in_err-move_chain-clause-refused
returns-in_err-move_chain-clause-refused g c =
    let t = c.args.table.now in
    let d = c.args.descent.now in
    let (off, room, short) = c.requires.rule in
    let grown = below_root t d c.requires.can.stands off (moves_below t d short) in
    record {
      full = λ h. (inl grown, full_near t (carried_want t d c.args.seat) (c.in_err-move_chain.ensures.full (search rules)));
      clock = λ h. (inl grown, c.in_err-move_chain.ensures.clock (search rules));
      full_where = λ h. inr (inl (c.requires.rule, c.in_err-move_chain.ensures.full (search rules)));
      clock_where = λ h. inl c.requires.rule;
      clock_first = λ ticks last. inl (search rules);
      not_full = search rules;
      err = search rules;
      err_descent = search rules;
    }

pub returns-clause-refused : goal.returns-clause-refused
returns-clause-refused g c = done_so _ _ _ _ _ _ outs.Put (λ ticks last. not_err _ ClockFull (c.in_ok-move_chain.ensures.clock_first last))
    (move_finds g.O.OpClass.meaning c.args.table.now c.args.descent.now c.args.seat c.requires.rule c.in_ok-move_chain.ensures.not_full)
