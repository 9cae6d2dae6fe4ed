use Rattle.std.proofs.Common.{refl}
use Rattle.spg_test_states.proofs.Others.{stays, then}
use Rattle.spg_test_states.proofs.near.turns.put.Goals as goal

pub loop-init : goal.loop-init
loop-init g c = stays g.O.OpClass.meaning c.args.by c.args.state.now c.args.state.now refl

pub loop-preserved : goal.loop-preserved
loop-preserved g c = then g.O.OpClass.meaning c.args.by c.args.state.now c.loop.state c.step-out.new.state c.loop.invariant c.step-out.ensures

pub returns-then-eq : goal.returns-then-eq
returns-then-eq g c = then g.O.OpClass.meaning c.args.by c.args.state.now c.loop.state c.step-out.new.state c.loop.invariant c.step-out.ensures
