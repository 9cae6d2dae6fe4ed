use Rattle.std.proofs.lemmas.Result.{on_ok_weaker}
use Rattle.spg_core.specs.Runs.{opens_scan}
use Rattle.spg_core.proofs.Classed.{opens_scan_of, call_of}
use Rattle.spg_core.proofs.state.State.open_scan.Goals as goal

pub returns-clause-ok : goal.returns-clause-ok
returns-clause-ok g c = on_ok_weaker c.open_scan.result (opens_scan_of c.self.inside.class g.O.OpClass.meaning c.self.inside.bare c.open_scan.new.self c.args.seat c.args.self.now c.self.view_is c.args.query) c.open_scan.ensures.ok

pub returns-clause-call : goal.returns-clause-call
returns-clause-call g c = on_ok_weaker c.open_scan.result (call_of c.self.inside.class g.O.OpClass.meaning c.self.inside.bare c.open_scan.new.self c.args.seat c.args.self.now c.self.view_is (opens_scan c.args.query)) c.open_scan.ensures.call
