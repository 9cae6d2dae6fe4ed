use Rattle.std.proofs.Common.{◌∙◌, subst}
use Rattle.spg_opclass.specs.declared.query.Query.{Query}
use Rattle.spg_opclass.specs.declared.query.Query.TheVariants.{Where}
use Rattle.spg_core.specs.Seen.{Seen, past_of}
use Rattle.spg_peek.specs.Peeking.{AreSome}
use Rattle.spg_peek.proofs.Firsts.{are_some}
use Rattle.spg_peek.proofs.some.find_some.Goals as goal

pub returns : goal.returns
returns g c =
    let m = g.O.OpClass.meaning in
    let seen = c.state-state.result.now in
    let R = c.in_ok-read_to.ensures in
    subst (λ (z : Seen _ _ _ _). AreSome m (past_of z) (Where c.args.conds) c.args.limit c.first_of.result) c.state-state.ensures.value
    (subst (λ (q : Query _ _ _ _). AreSome m (past_of seen) q c.args.limit c.first_of.result) (R.query ∙ c.in_ok-scan.ensures.query)
    (are_some m seen c.journal.ensures.right.legal c.state-state.ensures.closed c.args.limit c.read_to.new.scan c.read_to.new.found.items c.first_of.result R.now R.same R.end c.first_of.ensures))
