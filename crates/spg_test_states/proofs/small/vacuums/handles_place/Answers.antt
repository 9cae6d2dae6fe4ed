use Rattle.spg_test_states.proofs.Working.{place_next_done}
use Rattle.spg_test_states.proofs.small.vacuums.handles_place.Goals as goal

pub returns-in-Ok-Pending-clause-next : goal.returns-in-Ok-Pending-clause-next
returns-in-Ok-Pending-clause-next g c = λ so. (place_next_done g.O.OpClass.meaning c.args.state.now c.vacuum_step.new.self c.args.seat c.in-Ok-Pending.field-0 c.in-Ok-Pending.field-0-is c.in-Ok-Pending.ensures.call).0

pub returns-in-Ok-Pending-clause-done : goal.returns-in-Ok-Pending-clause-done
returns-in-Ok-Pending-clause-done g c = λ so. (place_next_done g.O.OpClass.meaning c.args.state.now c.vacuum_step.new.self c.args.seat c.in-Ok-Pending.field-0 c.in-Ok-Pending.field-0-is c.in-Ok-Pending.ensures.call).1
