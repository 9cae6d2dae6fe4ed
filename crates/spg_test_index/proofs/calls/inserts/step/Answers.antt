use Rattle.std.proofs.Common.{ap, ◌∙◌}
use Rattle.std.specs.Prelude.{Err}
use Rattle.spg_test_index.proofs.Stages.{not_free, may_be_full}
use Rattle.spg_test_index.proofs.calls.inserts.step.Goals as goal

pub abandon-requires-clause-open : goal.abandon-requires-clause-open
abandon-requires-clause-open g c = not_free c.args.state.now c.insert_step.new.self c.args.seat c.in-Err-IndexFull.ensures.err c.requires

pub abandon-requires-clause-why : goal.abandon-requires-clause-why
abandon-requires-clause-why g c = may_be_full c.args.state.now c.insert_step.new.self c.args.seat c.in-Err-IndexFull.ensures.err c.requires (c.insert_step.ensures.full (c.in-Err-IndexFull.is ∙ ap Err c.in-Err-IndexFull.field-0-is)).1

pub abandon-requires-in-Err-clause-open : goal.abandon-requires-in-Err-clause-open
abandon-requires-in-Err-clause-open g c = not_free c.args.state.now c.insert_step.new.self c.args.seat c.in-Err.ensures.err c.requires
