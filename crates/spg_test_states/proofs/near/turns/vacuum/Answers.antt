use Rattle.spg_test_states.proofs.Others.{then}
use Rattle.spg_test_states.proofs.near.turns.vacuum.Goals as goal

pub returns-then-open_vacuum : goal.returns-then-open_vacuum
returns-then-open_vacuum g c = then g.O.OpClass.meaning c.args.by c.args.state.now c.open_vacuum.new.state c.sweep_all.new.state c.open_vacuum.ensures c.sweep_all.ensures
