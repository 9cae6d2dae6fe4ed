use Rattle.std.proofs.Common.{subst}
use Rattle.std.specs.Result.{OnErr}
use Rattle.std.proofs.lemmas.Result.{IfOk-weaker}
use Rattle.spg_core.specs.Blocked.{IsItemFree}
use Rattle.spg_core.specs.Seen.{Seen}
use Rattle.spg_core.specs.Runs.{reads}
use Rattle.spg_core.proofs.Classed.{reads_of, call_of}
use Rattle.spg_core.proofs.state.State.scan_read.Goals as goal

pub returns-clause-ok : goal.returns-clause-ok
returns-clause-ok g c = IfOk-weaker c.scan_read.result _ _ (reads_of c.self.inside.class g.O.OpClass.meaning c.self.inside.bare c.scan_read.new.self c.args.seat c.args.self.now c.self.view_is c.args.item) c.scan_read.ensures.ok

pub returns-clause-call : goal.returns-clause-call
returns-clause-call g c = IfOk-weaker c.scan_read.result _ _ (λ out. call_of c.self.inside.class g.O.OpClass.meaning c.self.inside.bare c.scan_read.new.self c.args.seat c.args.self.now c.self.view_is (reads c.args.item out)) c.scan_read.ensures.call

pub returns-clause-latched : goal.returns-clause-latched
returns-clause-latched g c = subst (λ (v : Seen _ _ _ _). OnErr c.scan_read.result (IsItemFree v c.args.seat c.args.item)) c.self.view_is c.scan_read.ensures.latched
