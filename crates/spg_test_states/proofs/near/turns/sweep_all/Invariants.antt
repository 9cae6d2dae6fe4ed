use Rattle.spg_test_states.specs.Works.{Works}
use Rattle.spg_test_states.proofs.near.turns.sweep_all.Given as goal

abbrev pub invariant-loop : goal.invariant-loop
invariant-loop g l = Works g.O.OpClass.meaning l.by l.fn.state l.state
