use Rattle.spg_test_states.proofs.Others.{sweeps}
use Rattle.spg_test_states.proofs.near.turns.sweep.Goals as goal

pub returns-in-Ok : goal.returns-in-Ok
returns-in-Ok g c = sweeps g.O.OpClass.meaning c.args.by c.args.state.now c.vacuum_step.new.self c.in-Ok.out c.in-Ok.ensures.ok c.in-Ok.ensures.changes
