use Rattle.spg_test_states.proofs.Others.{kills}
use Rattle.spg_test_states.proofs.near.turns.kill.Goals as goal

pub returns-in-Ok : goal.returns-in-Ok
returns-in-Ok g c = kills g.O.OpClass.meaning c.args.by c.args.state.now c.kill.new.self c.args.row c.in-Ok.killed c.in-Ok.ensures.ok
