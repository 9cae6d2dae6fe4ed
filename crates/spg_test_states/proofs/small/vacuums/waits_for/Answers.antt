use Rattle.spg_test_states.proofs.Working.{waits_still, waits_more}
use Rattle.spg_test_states.proofs.small.vacuums.waits_for.Goals as goal

pub returns-in-Ok-clause-stays : goal.returns-in-Ok-clause-stays
returns-in-Ok-clause-stays g c = λ so. waits_still g.O.OpClass.meaning c.args.state.now c.vacuum_step.new.self c.args.seat c.in-Ok.out c.args.block c.in-Ok.ensures.call (c.is_latched.ensures so)

pub returns-in-Ok-clause-more : goal.returns-in-Ok-clause-more
returns-in-Ok-clause-more g c = λ so. waits_more g.O.OpClass.meaning c.args.state.now c.vacuum_step.new.self c.args.seat c.in-Ok.out c.args.block c.in-Ok.ensures.call (c.is_latched.ensures so)
