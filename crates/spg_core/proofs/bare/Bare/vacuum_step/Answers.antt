use Rattle.std.proofs.Common.{sym, ◌∙◌, subst}
use Rattle.std.specs.Result.{IfOk, OnErr}
use Rattle.spg_core.specs.Blocked.{IsWorkFree}
use Rattle.spg_core.specs.Seen.{Seen}
use Rattle.spg_core.specs.Calls.{SweepsPages}
use Rattle.spg_core.proofs.bare.Bare.vacuum_step.Goals as goal

pub returns-clause-others : goal.returns-clause-others
returns-clause-others g c = rw (sym (c.deref_mut.ensures.value ∙ c.self.view_is)) c.vacuum_step.ensures.others

pub returns-clause-changes : goal.returns-clause-changes
returns-clause-changes g c = subst (λ (v : Seen _ _ _ _). IfOk c.vacuum_step.result (λ _. SweepsPages g.O.OpClass.meaning v c.vacuum_step.new.self c.args.seat)) (c.deref_mut.ensures.value ∙ c.self.view_is) c.vacuum_step.ensures.changes

pub returns-clause-latched : goal.returns-clause-latched
returns-clause-latched g c = subst (λ (v : Seen _ _ _ _). OnErr c.vacuum_step.result (IsWorkFree v c.args.seat)) (c.deref_mut.ensures.value ∙ c.self.view_is) c.vacuum_step.ensures.latched
