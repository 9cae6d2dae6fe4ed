use Rattle.std.proofs.Common.{[]}
use Rattle.spg_turn.specs.Passes.{pass_view}
use Rattle.spg_desk.specs.Passes.{view_of}
use Rattle.spg_desk.proofs.Composing.{on_told}
use Rattle.spg_desk.proofs.Finding.{none_idle}
use Rattle.spg_desk.proofs.Inserting.{still_on}
use Rattle.spg_desk.proofs.Nearing.{did_near}
use Rattle.spg_desk.proofs.Views.{rest_on}
use Rattle.spg_desk.proofs.desk.Desk.near.Goals as goal

pub loop-preserved : goal.loop-preserved
loop-preserved g c =
    let m = g.O.OpClass.meaning in
    let u = pass_view c.loop.going.pass in
    let w = pass_view c.near_once-next.result.0.pass in
    let e = c.near_once-next.ensures in
    record {
      own = e.own;
      idle = none_idle m u w c.near_once-next.result.1 c.loop.invariant.idle e.told;
      on = still_on m (view_of c.args.pass) u w c.near_once-next.result.1 c.loop.invariant.on e.told;
    }

pub returns-in-Ok-Some-clause-did : goal.returns-in-Ok-Some-clause-did
returns-in-Ok-Some-clause-did g c =
    let e = c.near_once-next.ensures in
    did_near g.O.OpClass.meaning (view_of c.args.pass) (pass_view c.loop.going.pass) (pass_view c.near_once-next.result.0.pass) c.near_once-next.result.1 c.args.target c.args.limit c.near_once-next.result.2 c.in-Ok-Some.rows c.loop.invariant.on e.told e.moment e.found (rw c.in-Ok-Some.field-0-is at c.in-Ok-Some.is)

pub returns-in-Ok-Some-clause-free : goal.returns-in-Ok-Some-clause-free
returns-in-Ok-Some-clause-free g c =
    let m = g.O.OpClass.meaning in
    let v = view_of c.args.pass in
    let w = pass_view c.near_once-next.result.0.pass in
    rest_on m v w c.near_once-next.result.1 c.near_once-next.result.0.passed (on_told m v (pass_view c.loop.going.pass) w c.near_once-next.result.1 [] c.loop.invariant.on c.near_once-next.ensures.told) c.args.pass.idle

pub returns-in-Err-clause-did : goal.returns-in-Err-clause-did
returns-in-Err-clause-did g c =
    let e = c.near_once-next.ensures in (
      on_told g.O.OpClass.meaning (view_of c.args.pass) (pass_view c.loop.going.pass) (pass_view c.near_once-next.result.0.pass) c.near_once-next.result.1 [] c.loop.invariant.on e.told,
      e.moment,
    )

pub returns-in-Err-clause-free : goal.returns-in-Err-clause-free
returns-in-Err-clause-free g c =
    let m = g.O.OpClass.meaning in
    let v = view_of c.args.pass in
    let w = pass_view c.near_once-next.result.0.pass in
    rest_on m v w c.near_once-next.result.1 c.near_once-next.result.0.passed (on_told m v (pass_view c.loop.going.pass) w c.near_once-next.result.1 [] c.loop.invariant.on c.near_once-next.ensures.told) c.args.pass.idle
