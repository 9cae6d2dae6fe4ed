use Rattle.std.proofs.Common.{◌≡◌, ◌<◌, ℕ, length, drop, sym, ap, ◌∙◌}
use Rattle.spg_rows.specs.History.{own}
use Rattle.spg_core.specs.Seen.{Seen}
use Rattle.spg_turn.specs.Passes.{pass_view}
use Rattle.spg_desk.proofs.Views.{own_is, closed_idle}
use Rattle.spg_desk.proofs.desk.Desk.close.Goals as goal

pub returns-clause-first : goal.returns-clause-first
returns-clause-first g c =
    let v = pass_view c.args.first.going.pass in
    rw c.whole.ensures (sym (own_is 0 (drop v.base c.close-bare.result.journal)) ∙ c.close-bare.ensures.first)

pub returns-clause-others : goal.returns-clause-others
returns-clause-others g c =
    let v = pass_view c.args.first.going.pass in
    λ n above. rw c.whole.ensures (sym (own_is n (drop v.base c.close-bare.result.journal)) ∙ c.close-bare.ensures.others n above)

pub returns-clause-idle : goal.returns-clause-idle
returns-clause-idle g c =
    let v = pass_view c.args.first.going.pass in
    let e = c.close-bare.ensures in
    λ n. rw c.whole.ensures (closed_idle v c.close-bare.result.journal e.list c.requires.first c.args.first.going.passed c.args.first.idle e.first e.others n)
