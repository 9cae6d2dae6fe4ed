use Rattle.std.proofs.Common.{refl}
use Rattle.spg_test_states.proofs.Others.{stays, then}
use Rattle.spg_test_states.proofs.near.turns.insert_line.Goals as goal

pub loop-index-init : goal.loop-index-init
loop-index-init g c = stays g.O.OpClass.meaning c.args.seat c.args.state.now c.args.state.now refl

pub loop-index-preserved : goal.loop-index-preserved
loop-index-preserved g c = then g.O.OpClass.meaning c.args.seat c.args.state.now c.loop-index.state c.insert.new.state c.loop-index.invariant c.insert.ensures

pub returns-then-not-insert : goal.returns-then-not-insert
returns-then-not-insert g c = then g.O.OpClass.meaning c.args.seat c.args.state.now c.loop-index.state c.insert.new.state c.loop-index.invariant c.insert.ensures
