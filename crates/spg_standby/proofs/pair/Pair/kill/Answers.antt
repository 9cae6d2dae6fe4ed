use Rattle.std.proofs.Common.{◌≡◌, ℕ, length, ap, subst}
use Rattle.spg_core.specs.Seen.{Seen}
use Rattle.spg_standby.specs.Twin.{Twin}
use Rattle.spg_standby.specs.Writes.{Deleted}
use Rattle.spg_standby.proofs.Writes.{answered, few_queued}
use Rattle.spg_standby.proofs.pair.Pair.kill.Goals as goal

pub returns-clause-wrote : goal.returns-clause-wrote
returns-clause-wrote g c =
    let same : c.self.inside.primary ≡ c.args.self.now.primary = ap (λ (p : Twin _ _ _ _). p.primary) c.self.view_is in
    answered (Deleted c.args.self.now.primary c.kill-wrote.new.state 0 c.args.row) (length c.settle-wrote.new.standby.queue.records.items) c.settle-wrote.new.standby.lag c.kill-wrote.result c.settle-wrote.result
    (subst (λ (n : ℕ). Deleted c.args.self.now.primary c.kill-wrote.new.state n c.args.row c.kill-wrote.result) c.first-seat.ensures
    (subst (λ (s : Seen _ _ _ _). Deleted s c.kill-wrote.new.state c.first-seat.result c.args.row c.kill-wrote.result) same c.kill-wrote.ensures.wrote)) c.settle-wrote.ensures.wrote

pub returns-clause-queued : goal.returns-clause-queued
returns-clause-queued g c = few_queued (length c.settle-wrote.new.standby.queue.records.items) c.settle-wrote.new.standby.lag c.kill-wrote.result c.settle-wrote.result c.settle-wrote.ensures.wrote
