use Rattle.spg_test_states.proofs.Others.{then}
use Rattle.spg_test_states.proofs.near.turns.take_turn.Goals as goal

pub returns-then-open : goal.returns-then-open
returns-then-open g c = then g.O.OpClass.meaning c.args.seat c.args.state.now c.open.new.state c.step.new.state c.open.ensures c.step.ensures

pub returns-then-insert_line : goal.returns-then-insert_line
returns-then-insert_line g c = then g.O.OpClass.meaning c.args.seat c.args.state.now c.insert_line-in-InsertAndVacuum.new.state c.vacuum-then-insert_line.new.state c.insert_line-in-InsertAndVacuum.ensures c.vacuum-then-insert_line.ensures
