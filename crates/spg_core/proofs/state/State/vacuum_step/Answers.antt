use Rattle.std.proofs.Common.{sym, subst}
use Rattle.std.specs.Result.{IfOk, OnErr}
use Rattle.std.proofs.lemmas.Result.{IfOk-weaker}
use Rattle.spg_core.specs.Blocked.{IsWorkFree}
use Rattle.spg_core.specs.Seen.{Seen}
use Rattle.spg_core.specs.Calls.{SweepsPages}
use Rattle.spg_core.proofs.Classed.{vacuum_of, works_of}
use Rattle.spg_core.proofs.state.State.vacuum_step.Goals as goal

pub returns-clause-ok : goal.returns-clause-ok
returns-clause-ok g c = IfOk-weaker c.vacuum_step.result _ _ (vacuum_of c.self.inside.class g.O.OpClass.meaning c.self.inside.bare c.vacuum_step.new.self c.args.seat c.args.self.now c.self.view_is) c.vacuum_step.ensures.ok

pub returns-clause-call : goal.returns-clause-call
returns-clause-call g c = IfOk-weaker c.vacuum_step.result _ _ (works_of c.self.inside.class g.O.OpClass.meaning c.self.inside.bare c.vacuum_step.new.self c.args.seat c.args.self.now c.self.view_is) c.vacuum_step.ensures.call

pub returns-clause-others : goal.returns-clause-others
returns-clause-others g c = rw (sym c.self.view_is) c.vacuum_step.ensures.others

pub returns-clause-changes : goal.returns-clause-changes
returns-clause-changes g c = subst (λ (v : Seen _ _ _ _). IfOk c.vacuum_step.result (λ _. SweepsPages g.O.OpClass.meaning v c.vacuum_step.new.self c.args.seat)) c.self.view_is c.vacuum_step.ensures.changes

pub returns-clause-latched : goal.returns-clause-latched
returns-clause-latched g c = subst (λ (v : Seen _ _ _ _). OnErr c.vacuum_step.result (IsWorkFree v c.args.seat)) c.self.view_is c.vacuum_step.ensures.latched
