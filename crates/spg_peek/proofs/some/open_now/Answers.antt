use Rattle.std.proofs.Common.{◌≡◌, length, sym, ap, ◌∙◌}
use Rattle.std.proofs.lemmas.List.{length-reverse}
use Rattle.std.proofs.lemmas.Result.{IfOk-weaker}
use Rattle.spg_opclass.specs.declared.query.Query.{Query}
use Rattle.spg_opclass.specs.declared.query.Query.TheVariants.{Where}
use Rattle.spg_scan.specs.Scanning.{opened}
use Rattle.spg_peek.specs.Peeking.{OpensNow}
use Rattle.spg_peek.proofs.Peeks.{opens_now}
use Rattle.spg_peek.proofs.some.open_now.Goals as goal

pub returns : goal.returns
returns g c =
    let m = g.O.OpClass.meaning in
    let seen = c.args.state.now in
    let query : Query _ _ _ _ = Where c.args.conds in
    IfOk-weaker c.«open».result (λ scan. scan ≡ opened m query c.len-at.result c.at-stamp.result) (λ scan. OpensNow m seen c.args.conds scan)
    (λ scan is. opens_now m seen c.journal.ensures.right.legal c.requires c.pages.ensures.represents c.args.conds scan c.len-at.result c.at-stamp.result is (c.len-at.ensures ∙ ap length c.journal.ensures.events ∙ sym (length-reverse seen.journal)) (c.at-stamp.ensures ∙ c.clock.ensures.value))
    c.«open».ensures
