use Rattle.std.proofs.Common.{◌≡◌, ◌∙◌, Some, length, sym, ap, subst, []}
use Rattle.std.proofs.lemmas.List.{length-reverse}
use Rattle.spg_core.specs.Seen.{Seen, past_of}
use Rattle.spg_near.specs.Moment.{IsSought}
use Rattle.spg_tree.specs.Table.{Table, latch_at}
use Rattle.spg_near.specs.Nearest.{AreNearest}
use Rattle.spg_near.proofs.Exact.{none_nearest, exact}
use Rattle.spgist.proofs.Nears.{begins}
use Rattle.spgist.proofs.nearest.near.Goals as goal

pub returns-then-limit-eq0 : goal.returns-then-limit-eq0
returns-then-limit-eq0 g c =
    let past = past_of c.args.index.now in
    subst (AreNearest past c.args.target c.args.limit) (sym c.new.ensures)
    (subst (λ k. AreNearest past c.args.target k []) (sym c.if-limit-eq0.true) (none_nearest past c.args.target))

pub search_now-requires-clause-now : goal.search_now-requires-clause-now
search_now-requires-clause-now g c =
    let seen = c.state-state.result.now in (
      past_of seen,
      begins g.O.OpClass.meaning seen c.first.result c.pages.result.now c.rows.result.now c.pages.ensures.value c.journal.ensures.right.legal c.state-state.ensures.closed c.pages.ensures.represents c.rows.ensures.states,
      c.len-at.ensures ∙ ap length c.journal.ensures.events ∙ sym (length-reverse seen.journal),
    )

-- what was sought in this moment
pub unreachable-requires : goal.unreachable-requires
unreachable-requires g c =
    let seen = c.state-state.result.now in
    let (held, other) = subst (IsSought g.O.OpClass.meaning g.O.NearClass.box_below c.first.result (past_of seen) c.pages.result.now c.args.target c.args.limit) c.in-Latched.is
    (c.in_ok-rows.ensures (past_of seen)
    (begins g.O.OpClass.meaning seen c.first.result c.pages.result.now c.rows.result.now c.pages.ensures.value c.journal.ensures.right.legal c.state-state.ensures.closed c.pages.ensures.represents c.rows.ensures.states)
    (c.len-at.ensures ∙ ap length c.journal.ensures.events ∙ sym (length-reverse seen.journal))) in
    c.no_latch.ensures c.state-state.ensures.closed (subst (λ (t : Table). latch_at t c.in-Latched.block ≡ Some c.in-Latched.by) c.pages.ensures.value held)

pub returns : goal.returns
returns g c =
    let seen = c.state-state.result.now in
    let (right, walk) = subst (IsSought g.O.OpClass.meaning g.O.NearClass.box_below c.first.result (past_of seen) c.pages.result.now c.args.target c.args.limit) c.in-Found.is
    (c.in_ok-rows.ensures (past_of seen)
    (begins g.O.OpClass.meaning seen c.first.result c.pages.result.now c.rows.result.now c.pages.ensures.value c.journal.ensures.right.legal c.state-state.ensures.closed c.pages.ensures.represents c.rows.ensures.states)
    (c.len-at.ensures ∙ ap length c.journal.ensures.events ∙ sym (length-reverse seen.journal))) in
    subst (λ (s : Seen _ _ _ _). AreNearest (past_of s) c.args.target c.args.limit c.in-Found.rows) c.state-state.ensures.value (exact (past_of seen) c.journal.ensures.right.legal c.first.result c.args.target c.args.limit c.in-Found.rows right)
