use Rattle.std.proofs.lemmas.Result.{IfOk-weaker}
use Rattle.spg_core.specs.Runs.{closes}
use Rattle.spg_core.proofs.Classed.{closes_of, call_of}
use Rattle.spg_core.proofs.state.State.close_scan.Goals as goal

pub returns-clause-ok : goal.returns-clause-ok
returns-clause-ok g c = IfOk-weaker c.close_scan.result _ _ (closes_of c.self.inside.class g.O.OpClass.meaning c.self.inside.bare c.close_scan.new.self c.args.seat c.args.self.now c.self.view_is) c.close_scan.ensures.ok

pub returns-clause-call : goal.returns-clause-call
returns-clause-call g c = IfOk-weaker c.close_scan.result _ _ (λ closed. call_of c.self.inside.class g.O.OpClass.meaning c.self.inside.bare c.close_scan.new.self c.args.seat c.args.self.now c.self.view_is (closes closed)) c.close_scan.ensures.call
