use Rattle.std.proofs.Common.{◌≡◌, [], ◌∷◌, sym, ap, ◌∙◌, subst, refl}
use Rattle.spg_turn.specs.Passes.{pass_view}
use Rattle.spg_calls.specs.Calls.{joined}
use Rattle.spg_desk.specs.Passes.{view_of}
use Rattle.spg_desk.proofs.Finding.{scan_doing, find_idle, found}
use Rattle.spg_desk.specs.Acting.{closings}
use Rattle.spg_desk.proofs.Views.{at_rest, rest_on}
use Rattle.spg_desk.proofs.desk.Desk.find.Goals as goal

pub scan-going-requires-clause-scanning : goal.scan-going-requires-clause-scanning
scan-going-requires-clause-scanning g c =
    let told = rw c.in_default-opened.is at c.open_scan-going.ensures.told in
    scan_doing g.O.OpClass.meaning (view_of c.args.pass) (pass_view c.open_scan-going.result.0.pass) c.open_scan-going.result.1 c.args.query told

pub invariant_of-result-2 : goal.invariant_of-result-2
invariant_of-result-2 g c = record { idle = find_idle g.O.OpClass.meaning (pass_view c.open_scan-going.result.0.pass) (pass_view c.scan-going.result.0.pass) c.scan-going.result.1 c.scan-going.result.2 c.scan-going.ensures.told }

pub returns-clause-did : goal.returns-clause-did
returns-clause-did g c =
    let told = rw c.in_default-opened.is at c.open_scan-going.ensures.told in
    rw (c.ended_find.ensures, c.joined.ensures) (found g.O.OpClass.meaning (view_of c.args.pass) (pass_view c.open_scan-going.result.0.pass) (pass_view c.scan-going.result.0.pass) c.open_scan-going.result.1 c.scan-going.result.1 c.args.query c.scan-going.result.2 told c.scan-going.ensures.told)

pub returns-clause-free : goal.returns-clause-free
returns-clause-free g c =
    let m = g.O.OpClass.meaning in
    let w = pass_view c.open_scan-going.result.0.pass in
    let x = pass_view c.scan-going.result.0.pass in
    at_rest m w x c.scan-going.result.1 (closings w.number c.scan-going.result.2) c.scan-going.result.0.passed c.scan-going.ensures.told (find_idle m w x c.scan-going.result.1 c.scan-going.result.2 c.scan-going.ensures.told)

pub returns-in_default-clause-free : goal.returns-in_default-clause-free
returns-in_default-clause-free g c = rest_on g.O.OpClass.meaning (view_of c.args.pass) (pass_view c.look-going.result.0.pass) c.look-going.result.1 c.look-going.result.0.passed c.look-going.ensures.told c.args.pass.idle

pub returns-in-Err-clause-free : goal.returns-in-Err-clause-free
returns-in-Err-clause-free g c =
    let told = rw c.in-Err.is at c.open_scan-going.ensures.told in
    rest_on g.O.OpClass.meaning (view_of c.args.pass) (pass_view c.open_scan-going.result.0.pass) c.open_scan-going.result.1 c.open_scan-going.result.0.passed told c.args.pass.idle
