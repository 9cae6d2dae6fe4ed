use Rattle.std.proofs.Common.{refl}
use Rattle.spg_test_states.proofs.Others.{stays, then}
use Rattle.spg_test_states.proofs.near.turns.sweep_all.Goals as goal

pub loop-init : goal.loop-init
loop-init g c = stays g.O.OpClass.meaning c.args.by c.args.state.now c.args.state.now refl

pub loop-preserved : goal.loop-preserved
loop-preserved g c = then g.O.OpClass.meaning c.args.by c.args.state.now c.loop.state c.sweep-out.new.state c.loop.invariant c.sweep-out.ensures

pub returns-then-has_ended : goal.returns-then-has_ended
returns-then-has_ended g c = then g.O.OpClass.meaning c.args.by c.args.state.now c.loop.state c.sweep-out.new.state c.loop.invariant c.sweep-out.ensures
