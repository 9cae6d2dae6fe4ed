use Rattle.std.proofs.Common.{◌≡◌, sym, subst}
use Rattle.spg_rows.specs.History.{nothing, open_of}
use Rattle.spg_core.specs.Seen.{past_of}
use Rattle.spg_desk.specs.Knowing.{IsPassed}
use Rattle.spg_desk.proofs.Views.{first_passed}
use Rattle.spg_desk.proofs.desk.Desk.new.Goals as goal

pub invariant_of-going : goal.invariant_of-going
invariant_of-going g c =
    let bare = c.part-class.result.1 in
    record { passed = subst IsPassed (sym c.in-Ok.ensures.ok.2) (first_passed bare.journal bare.origin (λ n. subst (λ s. open_of n (past_of s) ≡ nothing) (sym c.part-class.ensures) (c.requires.idle n))) }
