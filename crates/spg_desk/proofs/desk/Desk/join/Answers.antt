use Rattle.std.proofs.Common.{◌≡◌, List, sym, ap, subst}
use Rattle.spg_turn.specs.Views.{StartsWith}
use Rattle.spg_turn.specs.Passes.{pass_view}
use Rattle.spg_desk.specs.Knowing.{IsPassed}
use Rattle.spg_desk.proofs.Views.{join_passed}
use Rattle.spg_desk.proofs.desk.Desk.join.Goals as goal

pub invariant_of-going : goal.invariant_of-going
invariant_of-going g c =
    let e = c.join-pass.ensures in
    let v = pass_view c.args.first.going.pass in
    let w = pass_view c.args.other.going.pass in
    record { passed = subst IsPassed (sym e.view) (join_passed v w c.args.first.going.passed c.args.other.idle (subst (λ l. StartsWith l v.seen) (ap (λ z. z.seen) e.view) e.begins_first)) }
