use Rattle.std.proofs.Common.{◌≤◌, ℕ, length, sym, subst, arith, refl}
use Rattle.spg_standby.specs.Finding.{IsBehind}
use Rattle.spg_mirror.proofs.Searching.{found_by, found_nothing}
use Rattle.spg_mirror.proofs.find.search.Goals as goal

pub returns-in-Ok : goal.returns-in-Ok
returns-in-Ok g c = λ asked named.
    let e = c.find.ensures in
    found_by g.O.OpClass.meaning g.O.Spoken.speech c.args.pair.now c.find.new.self asked c.args.query named c.in-Ok.closed _ c.found_outcome.ensures c.in-Ok.ensures.found
    (omega (arith, e.order, c.in-Ok.ensures.from, c.in-Ok.ensures.to)) (omega (arith, e.within, c.in-Ok.ensures.to))
    (subst (λ (n : ℕ). IsBehind c.args.pair.now.primary.journal n (length c.args.pair.now.queue)) (sym c.in-Ok.ensures.from) e.behind) e.primary e.queued e.lag

pub returns-in-Err : goal.returns-in-Err
returns-in-Err g c = λ asked named.
    let e = c.find.ensures in
    found_nothing g.O.OpClass.meaning g.O.Spoken.speech c.args.pair.now c.find.new.self asked _ refl
    (omega (arith, e.order, c.applied-from.ensures.value, c.applied.ensures.value)) (omega (arith, e.within, c.applied.ensures.value))
    c.applied-from.ensures.behind e.primary e.queued e.lag
