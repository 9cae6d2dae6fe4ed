use Rattle.std.proofs.lemmas.Result.{on_ok_weaker}
use Rattle.spg_core.specs.Runs.{opens_vacuum}
use Rattle.spg_core.proofs.Classed.{opens_vacuum_of, call_of}
use Rattle.spg_core.proofs.state.State.open_vacuum.Goals as goal

pub returns-clause-ok : goal.returns-clause-ok
returns-clause-ok g c = on_ok_weaker c.open_vacuum.result (opens_vacuum_of c.self.inside.class g.O.OpClass.meaning c.self.inside.bare c.open_vacuum.new.self c.args.seat c.args.self.now c.self.view_is) c.open_vacuum.ensures.ok

pub returns-clause-call : goal.returns-clause-call
returns-clause-call g c = on_ok_weaker c.open_vacuum.result (call_of c.self.inside.class g.O.OpClass.meaning c.self.inside.bare c.open_vacuum.new.self c.args.seat c.args.self.now c.self.view_is opens_vacuum) c.open_vacuum.ensures.call
