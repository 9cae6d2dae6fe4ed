use Rattle.std.proofs.Common.{◌≡◌, [], ◌∷◌, sym, ap, ◌∙◌, subst, refl, Some}
use Rattle.spg_turn.specs.Passes.{pass_view}
use Rattle.spg_desk.proofs.Composing.{on_first}
use Rattle.spg_desk.proofs.Inserting.{on_put, on_puts, puts_on}
use Rattle.spg_desk.proofs.desk.Desk.put.Goals as goal

pub loop-init : goal.loop-init
loop-init g c = record { own = c.requires.own; putting = c.requires.putting; on = on_first (pass_view c.args.going.pass) }

pub put_once-next-requires-clause-own : goal.put_once-next-requires-clause-own
put_once-next-requires-clause-own g c = c.loop.invariant.own

pub put_once-next-requires-clause-putting : goal.put_once-next-requires-clause-putting
put_once-next-requires-clause-putting g c = c.loop.invariant.putting

pub returns-in-Some-end-clause-told : goal.returns-in-Some-end-clause-told
returns-in-Some-end-clause-told g c =
    on_puts g.O.OpClass.meaning (pass_view c.args.going.pass) (pass_view c.loop.going.pass) (pass_view c.put_once-next.result.0.pass) c.put_once-next.result.1 (Some c.in-Some-end.end) c.loop.invariant.on (rw c.in-Some-end.is at c.put_once-next.ensures.told)

pub loop-preserved : goal.loop-preserved
loop-preserved g c =
    let u = pass_view c.args.going.pass in
    let w = pass_view c.put_once-next.result.0.pass in
    let on = puts_on g.O.OpClass.meaning u (pass_view c.loop.going.pass) w c.put_once-next.result.1 c.loop.invariant.on c.loop.invariant.putting (rw c.in_default.is at c.put_once-next.ensures.told) in
    record { own = c.put_once-next.ensures.own; putting = on_put u w on c.requires.putting; on = on }
