use Rattle.spg_test_states.proofs.Others.{then}
use Rattle.spg_test_states.proofs.near.turns.insert.Goals as goal

pub returns-then-open : goal.returns-then-open
returns-then-open g c = then g.O.OpClass.meaning c.args.by c.args.state.now c.open.new.state c.put.new.state c.open.ensures c.put.ensures
