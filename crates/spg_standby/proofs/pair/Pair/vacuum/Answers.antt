use Rattle.std.proofs.Common.{◌≡◌, ℕ, length, ap, subst}
use Rattle.spg_core.specs.Seen.{Seen}
use Rattle.spg_standby.specs.Twin.{Twin}
use Rattle.spg_standby.specs.Writes.{Vacuumed}
use Rattle.spg_standby.proofs.Writes.{answered, few_queued}
use Rattle.spg_standby.proofs.pair.Pair.vacuum.Goals as goal

pub returns-clause-wrote : goal.returns-clause-wrote
returns-clause-wrote g c =
    let same : c.self.inside.primary ≡ c.args.self.now.primary = ap (λ (p : Twin _ _ _ _). p.primary) c.self.view_is in
    answered (Vacuumed c.args.self.now.primary c.vacuum-wrote.new.state 0) (length c.settle-wrote.new.standby.queue.records.items) c.settle-wrote.new.standby.lag c.vacuum-wrote.result c.settle-wrote.result
    (subst (λ (n : ℕ). Vacuumed c.args.self.now.primary c.vacuum-wrote.new.state n c.vacuum-wrote.result) c.first-seat.ensures
    (subst (λ (s : Seen _ _ _ _). Vacuumed s c.vacuum-wrote.new.state c.first-seat.result c.vacuum-wrote.result) same c.vacuum-wrote.ensures.wrote)) c.settle-wrote.ensures.wrote

pub returns-clause-queued : goal.returns-clause-queued
returns-clause-queued g c = few_queued (length c.settle-wrote.new.standby.queue.records.items) c.settle-wrote.new.standby.lag c.vacuum-wrote.result c.settle-wrote.result c.settle-wrote.ensures.wrote
