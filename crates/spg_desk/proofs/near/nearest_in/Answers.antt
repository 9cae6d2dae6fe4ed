use Rattle.std.proofs.Common.{◌≡◌, ◌∙◌, [], length, sym, ap, subst}
use Rattle.std.proofs.lemmas.List.{length-reverse}
use Rattle.spg_core.specs.Seen.{past_of}
use Rattle.spg_near.specs.Moment.{IsSought}
use Rattle.spg_near.specs.Nearest.{AreNearest}
use Rattle.spg_near.proofs.Exact.{none_nearest, exact}
use Rattle.spg_desk.proofs.Nearing.{begins}
use Rattle.spg_desk.proofs.near.nearest_in.Goals as goal

pub returns-then-limit-eq0 : goal.returns-then-limit-eq0
returns-then-limit-eq0 g c =
    let past = past_of c.args.bare.now in
    subst (AreNearest past c.args.target c.args.limit) (sym c.new.ensures)
    (subst (λ k. AreNearest past c.args.target k []) (sym c.if-limit-eq0.true) (none_nearest past c.args.target))

pub search_now-requires-clause-now : goal.search_now-requires-clause-now
search_now-requires-clause-now g c =
    let seen = c.args.bare.now in (
      past_of seen,
      begins g.O.OpClass.meaning seen c.args.seat c.pages-pages.result.now c.rows-rows.result.now c.pages-pages.ensures.value c.journal.ensures.right.legal c.requires.free c.open_of.ensures.journal c.pages-pages.ensures.represents c.rows-rows.ensures.states,
      c.len-at.ensures ∙ ap length c.journal.ensures.events ∙ sym (length-reverse seen.journal),
    )

pub returns-in-Found : goal.returns-in-Found
returns-in-Found g c =
    let seen = c.args.bare.now in
    let (right, walk) = subst (IsSought g.O.OpClass.meaning g.O.NearClass.box_below c.args.seat (past_of seen) c.pages-pages.result.now c.args.target c.args.limit) c.in-Found.is
    (c.in_ok-rows.ensures (past_of seen)
    (begins g.O.OpClass.meaning seen c.args.seat c.pages-pages.result.now c.rows-rows.result.now c.pages-pages.ensures.value c.journal.ensures.right.legal c.requires.free c.open_of.ensures.journal c.pages-pages.ensures.represents c.rows-rows.ensures.states)
    (c.len-at.ensures ∙ ap length c.journal.ensures.events ∙ sym (length-reverse seen.journal))) in
    exact (past_of seen) c.journal.ensures.right.legal c.args.seat c.args.target c.args.limit c.in-Found.rows right
