use Rattle.spg_test_states.proofs.Others.{steps}
use Rattle.spg_test_states.proofs.near.turns.step.Goals as goal

pub returns-in-Ok : goal.returns-in-Ok
returns-in-Ok g c = steps g.O.OpClass.meaning c.args.by c.args.state.now c.insert_step.new.self c.in-Ok.out c.in-Ok.ensures.ok c.in-Ok.ensures.changes
