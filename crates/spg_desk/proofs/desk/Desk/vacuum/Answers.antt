use Rattle.std.proofs.Common.{◌≡◌, [], ◌∷◌, sym, ap, ◌∙◌, subst, refl}
use Rattle.spg_turn.specs.Passes.{pass_view}
use Rattle.spg_calls.specs.Calls.{joined}
use Rattle.spg_desk.specs.Passes.{view_of}
use Rattle.spg_desk.proofs.Sweeping.{vacuum_doing, vacuum_idle, vacuum_told, vacuumed, not_opened, vacuum_refused_did}
use Rattle.spg_desk.proofs.Views.{at_rest, rest_on}
use Rattle.spg_desk.proofs.desk.Desk.vacuum.Goals as goal

pub sweep-going-requires-clause-sweeping : goal.sweep-going-requires-clause-sweeping
sweep-going-requires-clause-sweeping g c =
    let told = rw c.in_default.is at c.open_vacuum-going.ensures.told in
    vacuum_doing g.O.OpClass.meaning (view_of c.args.pass) (pass_view c.open_vacuum-going.result.0.pass) c.open_vacuum-going.result.1 told

pub invariant_of-result-2 : goal.invariant_of-result-2
invariant_of-result-2 g c =
    let told = rw c.in_default.is at c.open_vacuum-going.ensures.told in
    record { idle = vacuum_idle g.O.OpClass.meaning (view_of c.args.pass) (pass_view c.sweep-going.result.0.pass) c.sweep-going.result.1 c.sweep-going.result.2 (c.sweep-going.ensures.told (view_of c.args.pass) told) }

pub returns-clause-did : goal.returns-clause-did
returns-clause-did g c =
    let told = rw c.in_default.is at c.open_vacuum-going.ensures.told in
    rw c.ended_vacuum.ensures (vacuumed g.O.OpClass.meaning (view_of c.args.pass) (pass_view c.sweep-going.result.0.pass) c.sweep-going.result.1 c.sweep-going.result.2 (c.sweep-going.ensures.told (view_of c.args.pass) told))

pub returns-clause-free : goal.returns-clause-free
returns-clause-free g c =
    let m = g.O.OpClass.meaning in
    let v = view_of c.args.pass in
    let w = pass_view c.sweep-going.result.0.pass in
    let told = rw c.in_default.is at c.open_vacuum-going.ensures.told in
    let ends = c.sweep-going.ensures.told v told in
    let (events, swept) = vacuum_told m v w c.sweep-going.result.1 c.sweep-going.result.2 ends in
    at_rest m v w c.sweep-going.result.1 events c.sweep-going.result.0.passed swept (vacuum_idle m v w c.sweep-going.result.1 c.sweep-going.result.2 ends)

pub returns-in-Err-clause-free : goal.returns-in-Err-clause-free
returns-in-Err-clause-free g c =
    let m = g.O.OpClass.meaning in
    let v = view_of c.args.pass in
    let w = pass_view c.open_vacuum-going.result.0.pass in
    let told = rw c.in-Err.is at c.open_vacuum-going.ensures.told in
    rest_on m v w c.open_vacuum-going.result.1 c.open_vacuum-going.result.0.passed (not_opened m v w c.open_vacuum-going.result.1 _ told) c.args.pass.idle

pub returns-in-Err-clause-did : goal.returns-in-Err-clause-did
returns-in-Err-clause-did g c =
    let told = rw c.in-Err.is at c.open_vacuum-going.ensures.told in
    rw c.refused_vacuum.ensures (vacuum_refused_did g.O.OpClass.meaning (view_of c.args.pass) (pass_view c.open_vacuum-going.result.0.pass) c.open_vacuum-going.result.1 c.in-Err.refused told)
