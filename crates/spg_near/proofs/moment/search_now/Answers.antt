use Rattle.std.proofs.Common.{◌≡◌, ◌<◌, ◌^◌, ℕ, sym, ap, ◌∙◌, subst, arith}
use Rattle.spg_scan.specs.Scanning.{counted}
use Rattle.spg_scan.specs.declared.walk.ReadOut.{ReadOut}
use Rattle.spg_near.specs.Nearing.{Nearing}
use Rattle.spg_near.specs.Moment.{IsReadTo}
use Rattle.spg_near.proofs.Moments.{opens, found, walked}
use Rattle.spg_near.proofs.moment.search_now.Goals as goal

fits_as : (n k : ℕ) → k ≡ n → k < 2 ^ 64 → counted n ≡ n
fits_as n k e l = omega arith

pub read_all-requires : goal.read_all-requires
read_all-requires g c =
    let (past, now, at) = c.requires.now in
    record { begun = (past, opens g.O.OpClass.meaning g.O.NearClass.box_below c.args.seat past c.args.table.now c.args.rows.now g.O.OpClass.codes g.met.O.NearClass.points now c.args.target c.args.limit c.args.at c.at-stamp.result c.in_ok-near.near c.in_ok-near.ensures at (c.at-stamp.ensures ∙ c.clock.ensures.value)) }

pub returns-in-Read : goal.returns-in-Read
returns-in-Read g c = λ past now at.
    let m = g.O.OpClass.meaning in
    let b = g.O.NearClass.box_below in
    let t = c.args.table.now in
    let n = c.read_all.new.near in
    let begun = opens m b c.args.seat past t c.args.rows.now g.O.OpClass.codes g.met.O.NearClass.points now c.args.target c.args.limit c.args.at c.at-stamp.result c.in_ok-near.near c.in_ok-near.ensures at (c.at-stamp.ensures ∙ c.clock.ensures.value) in
    let ended = c.in_ok-read_all.ensures.begun past begun in
    let target : n.target ≡ c.args.target = c.in_ok-read_all.ensures.target ∙ ap (λ (z : Nearing _). z.target) c.in_ok-near.ensures in
    let limit : n.limit ≡ c.args.limit = c.in_ok-read_all.ensures.limit ∙ ap (λ (z : Nearing _). z.limit) c.in_ok-near.ensures in
    let done = subst (λ (o : ReadOut). IsReadTo t c.args.seat n o) c.in-Read.is c.in_ok-read_all.ensures.to in (
      found m b c.args.seat past t c.args.rows.now n c.args.target c.args.limit c.in_ok-found-in-Read.found ended target limit c.in_ok-found-in-Read.ensures done,
      walked m b c.args.seat past t c.args.rows.now n c.args.target c.args.limit c.in_ok-found-in-Read.found ended target limit c.in_ok-found-in-Read.ensures done c.met.result (fits_as n.met c.met.result c.met.ensures c.met.type_inv ∙ sym c.met.ensures),
    )
