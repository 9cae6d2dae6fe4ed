use Rattle.std.proofs.Common.{sym, subst, arith}
use Rattle.spg_core.specs.Seen.{Seen, stage_at}
use Rattle.spg_test_states.specs.States.{HasDone}
use Rattle.spg_test_states.proofs.small.state.small_state.Goals as goal

pub returns : goal.returns
returns g c =
    c.becomes_small-is_so.ensures (λ e. omega (arith, e, c.seat-scanner.ensures, c.seat-sweeper.ensures))
    (λ came. subst (λ (v : Seen _ _ _ _). HasDone (stage_at v c.seat-sweeper.result)) (sym c.part-class.ensures) (c.comes_about-came.ensures (λ e. omega (arith, e, c.seat-sweeper.ensures)) came))
