use Rattle.spg_test_states.specs.Works.{Works}
use Rattle.spg_test_states.proofs.near.turns.insert_line.Given as goal

abbrev pub invariant-loop-index : goal.invariant-loop-index
invariant-loop-index g l = Works g.O.OpClass.meaning l.seat l.fn.state l.state
