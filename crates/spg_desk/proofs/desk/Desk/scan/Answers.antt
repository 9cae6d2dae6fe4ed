use Rattle.std.proofs.Common.{◌≡◌, [], ◌∷◌, sym, ap, ◌∙◌, subst, refl}
use Rattle.spg_turn.specs.Passes.{pass_view}
use Rattle.spg_desk.proofs.Composing.{on_first}
use Rattle.spg_desk.proofs.Finding.{on_scan, reads_closed, reads_on}
use Rattle.spg_desk.proofs.desk.Desk.scan.Goals as goal

pub loop-init : goal.loop-init
loop-init g c = record { own = c.requires.own; scanning = c.requires.scanning; on = on_first (pass_view c.args.going.pass) }

pub read_once-next-requires-clause-own : goal.read_once-next-requires-clause-own
read_once-next-requires-clause-own g c = c.loop.invariant.own

pub read_once-next-requires-clause-scanning : goal.read_once-next-requires-clause-scanning
read_once-next-requires-clause-scanning g c = c.loop.invariant.scanning

pub returns-in-Some-closed-clause-told : goal.returns-in-Some-closed-clause-told
returns-in-Some-closed-clause-told g c =
    reads_closed g.O.OpClass.meaning (pass_view c.args.going.pass) (pass_view c.loop.going.pass) (pass_view c.read_once-next.result.0.pass) c.read_once-next.result.1 c.read_once-next.result.2 c.in-Some-closed.closed c.loop.invariant.on c.read_once-next.ensures.told (sym c.closed_by-closed.ensures ∙ c.in-Some-closed.is)

pub loop-preserved : goal.loop-preserved
loop-preserved g c =
    let u = pass_view c.args.going.pass in
    let w = pass_view c.read_once-next.result.0.pass in
    let on = reads_on g.O.OpClass.meaning u (pass_view c.loop.going.pass) w c.read_once-next.result.1 c.read_once-next.result.2 c.loop.invariant.on c.read_once-next.ensures.told (sym c.closed_by-closed.ensures ∙ c.in_default.is) in
    record { own = c.read_once-next.ensures.own; scanning = on_scan u w on c.requires.scanning; on = on }
