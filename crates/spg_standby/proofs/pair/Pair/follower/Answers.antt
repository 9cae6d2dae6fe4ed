use Rattle.std.proofs.Common.{◌≤◌, length, subst}
use Rattle.spg_standby.specs.Twin.{Twin}
use Rattle.spg_standby.specs.Finding.{IsBehind}
use Rattle.spg_standby.proofs.Finding.{is_behind}
use Rattle.spg_standby.proofs.pair.Pair.follower.Goals as goal

pub returns-clause-within : goal.returns-clause-within
returns-clause-within g c = subst (λ (t : Twin _ _ _ _). t.follower.applied ≤ length t.primary.journal) c.self.view_is c.self.invariant.paired.stands.holds.within

pub returns-clause-behind : goal.returns-clause-behind
returns-clause-behind g c =
    subst (λ (t : Twin _ _ _ _). IsBehind t.primary.journal t.follower.applied (length t.queue)) c.self.view_is
    (is_behind g.O.OpClass.meaning c.self.inside.primary c.self.inside.standby.follower c.self.inside.standby.queue.records.items c.self.invariant.paired)
