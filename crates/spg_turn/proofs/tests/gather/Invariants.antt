use Rattle.std.proofs.Common.{◌≡◌, All, IfSome, length}
use Rattle.spg_turn.specs.Passes.{turn_id, pass_turn, pass_view}
use Rattle.spg_turn.proofs.tests.gather.Given as goal

abbrev pub invariant-loop-k : goal.invariant-loop-k
invariant-loop-k l =
    (pass_turn l.first ≡ turn_id l.turn)
    × ((pass_view l.first).number ≡ 0)
    × All (λ lane. IfSome lane (λ p. pass_turn p ≡ turn_id l.turn)) l.lanes
    × (length l.lanes ≡ length l.initial.lanes)
