use Rattle.std.proofs.Common.{arith, ◌+◌, ◌%◌}
use Rattle.spg_turn.proofs.Turns.{rings}
use Rattle.spg_turn.proofs.turn.Turn.ring.Goals as goal

pub fetch_add-requires : goal.fetch_add-requires
fetch_add-requires g c =
    let sized = c.args.self.now.sized in
    let bell = c.bell_of-bell.ensures in (
      c.requires.own,
      omega arith,
      rings g.S.Recorded.entries g.S.Recorded.seat_of g.S.Recorded.origin_of _ _ _ _ (λ n. (n + 1) % 18446744073709551616) bell.0,
    )
