use Rattle.std.proofs.Common.{arith, ap, ◌∙◌}
use Rattle.spg_turn.proofs.Seats.{joins, compares}
use Rattle.spg_turn.proofs.turn.Turn.join.Goals as goal

pub join_seat-requires : goal.join_seat-requires
join_seat-requires g c =
    let rest = c.args.first.resting in
    let rest' = c.args.other.resting in
    let sized = c.args.self.now.sized in (
      c.requires.own.0,
      c.requires.own.1,
      rest'.0,
      omega arith,
      joins g.S.Recorded.entries g.S.Recorded.seat_of g.S.Recorded.origin_of _ _ _ _ c.requires.first rest.2 rest.1 rest'.2 rest'.1,
    )

pub load-requires : goal.load-requires
load-requires g c =
    let rest = c.args.first.resting in
    let sized = c.args.self.now.sized in
    let at = ap (λ m. m.0) c.join_seat.ensures.2 in (
      c.join_seat.ensures.0 ∙ c.requires.own.0,
      omega arith,
      compares g.S.Recorded.entries g.S.Recorded.seat_of g.S.Recorded.origin_of _ _ _ (ap (λ v. v.stage) at ∙ rest.1) (ap (λ v. v.spent) at ∙ rest.2),
    )
