use Rattle.std.proofs.Common.{◌≡◌, [], ◌∷◌, sym, ap, ◌∙◌, subst, refl}
use Rattle.spg_turn.specs.Passes.{pass_view}
use Rattle.spg_calls.specs.Calls.{joined}
use Rattle.spg_desk.specs.Passes.{view_of}
use Rattle.spg_desk.specs.Acting.{IsPut}
use Rattle.spg_desk.specs.Answers.{DidInsert, ended_insert}
use Rattle.spg_desk.proofs.Inserting.{insert_doing, insert_idle, inserted, refused_told}
use Rattle.spg_desk.specs.Acting.{ending}
use Rattle.spg_desk.proofs.Views.{at_rest, rest_on}
use Rattle.spg_desk.proofs.desk.Desk.insert.Goals as goal

pub put-going-requires-clause-putting : goal.put-going-requires-clause-putting
put-going-requires-clause-putting g c =
    let told = rw c.in_default-opened.is at c.open_insert-going.ensures.told in
    subst IsPut (sym (insert_doing g.O.OpClass.meaning (view_of c.args.pass) (pass_view c.open_insert-going.result.0.pass) c.open_insert-going.result.1 c.args.row c.in-Ok.started told)) tt

pub invariant_of-result-2 : goal.invariant_of-result-2
invariant_of-result-2 g c =
    let told = rw c.in_default-opened.is at c.open_insert-going.ensures.told in
    record { idle = insert_idle g.O.OpClass.meaning (view_of c.args.pass) (pass_view c.open_insert-going.result.0.pass) (pass_view c.put-going.result.0.pass) c.open_insert-going.result.1 c.put-going.result.1 c.args.row c.in-Ok.started c.put-going.result.2 told c.put-going.ensures.told }

pub returns-clause-did : goal.returns-clause-did
returns-clause-did g c =
    let m = g.O.OpClass.meaning in
    let v = view_of c.args.pass in
    let w = pass_view c.open_insert-going.result.0.pass in
    let x = pass_view c.put-going.result.0.pass in
    let told = rw c.in_default-opened.is at c.open_insert-going.ensures.told in
    let did = inserted m v w x c.open_insert-going.result.1 c.put-going.result.1 c.args.row c.in-Ok.started c.put-going.result.2 told c.put-going.ensures.told in
    rw (c.ended_insert.ensures, c.joined.ensures) (subst (λ k. DidInsert m v x c.args.row k (ended_insert c.put-going.result.2 (joined c.open_insert-going.result.1 c.put-going.result.1))) c.in-Ok.ensures did)

pub returns-clause-free : goal.returns-clause-free
returns-clause-free g c =
    let m = g.O.OpClass.meaning in
    let v = view_of c.args.pass in
    let w = pass_view c.open_insert-going.result.0.pass in
    let x = pass_view c.put-going.result.0.pass in
    let told = rw c.in_default-opened.is at c.open_insert-going.ensures.told in
    let both = c.put-going.ensures.told c.args.row c.in-Ok.started (insert_doing m v w c.open_insert-going.result.1 c.args.row c.in-Ok.started told) in
    at_rest m w x c.put-going.result.1 (ending w.number c.args.row c.put-going.result.2 ∷ []) c.put-going.result.0.passed both.0 (insert_idle m v w x c.open_insert-going.result.1 c.put-going.result.1 c.args.row c.in-Ok.started c.put-going.result.2 told c.put-going.ensures.told)

pub returns-in_default-clause-free : goal.returns-in_default-clause-free
returns-in_default-clause-free g c = rest_on g.O.OpClass.meaning (view_of c.args.pass) (pass_view c.look-going.result.0.pass) c.look-going.result.1 c.look-going.result.0.passed c.look-going.ensures.told c.args.pass.idle

pub returns-in-Err-clause-free : goal.returns-in-Err-clause-free
returns-in-Err-clause-free g c =
    let m = g.O.OpClass.meaning in
    let v = view_of c.args.pass in
    let w = pass_view c.open_insert-going.result.0.pass in
    let told = rw c.in-Err.is at c.open_insert-going.ensures.told in
    rest_on m v w c.open_insert-going.result.1 c.open_insert-going.result.0.passed (refused_told m v w c.open_insert-going.result.1 c.args.row c.in-Ok.started _ told) c.args.pass.idle
