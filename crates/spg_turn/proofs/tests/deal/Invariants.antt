use Rattle.std.proofs.Common.{◌≡◌, ◌≤◌, ◌+◌, All, IfSome, vec_len, vec_capacity}
use Rattle.spg_turn.specs.Passes.{turn_id, turn_seats, pass_turn, pass_view}
use Rattle.spg_turn.proofs.tests.deal.Given as goal

abbrev pub invariant-loop : goal.invariant-loop
invariant-loop l =
    (pass_turn l.first ≡ turn_id l.turn)
    × ((pass_view l.first).number ≡ 0)
    × ((pass_view l.first).given ≡ l.counter)
    × (l.end ≡ turn_seats l.turn)
    × (l.end ≤ 64)
    × (l.counter ≤ l.end)
    × (vec_len l.lanes + 1 ≡ l.counter)
    × (64 ≤ vec_capacity l.lanes)
    × All (λ lane. IfSome lane (λ p. pass_turn p ≡ turn_id l.turn)) l.lanes.items
