use Rattle.std.proofs.Common.{arith}
use Rattle.spg_turn.proofs.Seats.{splits}
use Rattle.spg_turn.proofs.turn.Turn.split.Goals as goal

pub split_seat-other-requires : goal.split_seat-other-requires
split_seat-other-requires g c =
    let rest = c.args.pass.resting in
    let sized = c.args.self.now.sized in (
      c.requires.own,
      omega arith,
      splits g.S.Recorded.entries g.S.Recorded.seat_of g.S.Recorded.origin_of _ _ c.requires.first rest.2 rest.1 (let room = c.requires.room in omega arith),
    )
