use Rattle.std.proofs.Common.{arith, ◌+◌, ◌%◌}
use Rattle.spg_turn.proofs.Turns.{rings}
use Rattle.spg_turn.proofs.turn.Turn.end_sleep.Goals as goal

pub fetch_sub-requires : goal.fetch_sub-requires
fetch_sub-requires g c =
    let sized = c.args.self.now.sized in (
      c.requires.own,
      omega arith,
      rings g.S.Recorded.entries g.S.Recorded.seat_of g.S.Recorded.origin_of _ _ _ _ (λ n. (n + 18446744073709551615) % 18446744073709551616) (omega arith),
    )
