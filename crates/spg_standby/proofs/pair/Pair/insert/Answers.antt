use Rattle.std.proofs.Common.{◌≡◌, ℕ, length, sym, ap, subst}
use Rattle.spg_rows.specs.Told.{IsUsed}
use Rattle.spg_core.specs.Seen.{Seen, past_of}
use Rattle.spg_standby.specs.Twin.{Twin}
use Rattle.spg_standby.specs.Writes.{Inserted}
use Rattle.spg_standby.proofs.Writes.{answered, few_queued, used_still}
use Rattle.spg_standby.proofs.pair.Pair.insert.Goals as goal

pub returns-clause-wrote : goal.returns-clause-wrote
returns-clause-wrote g c =
    let same : c.self.inside.primary ≡ c.args.self.now.primary = ap (λ (p : Twin _ _ _ _). p.primary) c.self.view_is in
    answered (Inserted g.O.OpClass.meaning c.args.self.now.primary c.insert-wrote.new.state 0 c.args.row c.args.key) (length c.settle-wrote.new.standby.queue.records.items) c.settle-wrote.new.standby.lag c.insert-wrote.result c.settle-wrote.result
    (subst (λ (n : ℕ). Inserted g.O.OpClass.meaning c.args.self.now.primary c.insert-wrote.new.state n c.args.row c.args.key c.insert-wrote.result) c.first-seat.ensures
    (subst (λ (s : Seen _ _ _ _). Inserted g.O.OpClass.meaning s c.insert-wrote.new.state c.first-seat.result c.args.row c.args.key c.insert-wrote.result) same c.insert-wrote.ensures.wrote)) c.settle-wrote.ensures.wrote

pub returns-clause-used : goal.returns-clause-used
returns-clause-used g c = λ used.
    let same : c.self.inside.primary ≡ c.args.self.now.primary = ap (λ (p : Twin _ _ _ _). p.primary) c.self.view_is in
    used_still (length c.settle-wrote.new.standby.queue.records.items) c.settle-wrote.new.standby.lag c.insert-wrote.result c.settle-wrote.result (c.insert-wrote.ensures.used (subst (λ (s : Seen _ _ _ _). IsUsed (past_of s) c.args.row) (sym same) used)) c.settle-wrote.ensures.wrote

pub returns-clause-queued : goal.returns-clause-queued
returns-clause-queued g c = few_queued (length c.settle-wrote.new.standby.queue.records.items) c.settle-wrote.new.standby.lag c.insert-wrote.result c.settle-wrote.result c.settle-wrote.ensures.wrote
