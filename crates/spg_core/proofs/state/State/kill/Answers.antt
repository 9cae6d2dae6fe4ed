use Rattle.std.proofs.lemmas.Result.{IfOk-weaker}
use Rattle.spg_core.specs.Calls.{kill_of}
use Rattle.spg_core.proofs.Classed.{kills_of, call_of}
use Rattle.spg_core.proofs.state.State.kill.Goals as goal

pub returns-clause-ok : goal.returns-clause-ok
returns-clause-ok g c = IfOk-weaker c.kill.result _ _ (kills_of c.self.inside.class g.O.OpClass.meaning c.self.inside.bare c.kill.new.self c.args.seat c.args.self.now c.self.view_is c.args.row) c.kill.ensures.ok

pub returns-clause-call : goal.returns-clause-call
returns-clause-call g c = IfOk-weaker c.kill.result _ _ (λ killed. call_of c.self.inside.class g.O.OpClass.meaning c.self.inside.bare c.kill.new.self c.args.seat c.args.self.now c.self.view_is (kill_of c.args.row killed)) c.kill.ensures.call
