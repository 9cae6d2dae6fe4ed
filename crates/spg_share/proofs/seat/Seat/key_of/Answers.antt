use Rattle.std.proofs.Common.{sym, ◌∙◌, subst}
use Rattle.spg_desk.specs.Passes.{view_of}
use Rattle.spg_desk.specs.Looks.{DidAskKey}
use Rattle.spg_share.specs.Seats.{pass_knows}
use Rattle.spg_share.proofs.Begun.{same_name, key_begun}
use Rattle.spg_share.proofs.seat.Seat.key_of.Goals as goal

pub returns-clause-same : goal.returns-clause-same
returns-clause-same g c =
    let m = g.O.OpClass.meaning in
    let p = c.in-Some.pass in
    let r = c.key_of-pass in
    let q = r.result.0 in
    let a = r.result.1 in
    same_name c.args.self.now.pass p q (sym c.take.ensures.value ∙ c.in-Some.is) r.ensures.own (key_begun m (view_of p) (view_of q) p.going.passed.based c.args.row a r.ensures.did)

pub returns-clause-did : goal.returns-clause-did
returns-clause-did g c =
    let r = c.key_of-pass in
    subst (λ o. DidAskKey g.O.OpClass.meaning (pass_knows o) (view_of r.result.0) c.args.row r.result.1) (sym (sym c.take.ensures.value ∙ c.in-Some.is)) r.ensures.did
