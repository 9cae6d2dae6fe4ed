use Rattle.std.proofs.Common.{arith, ◌∙◌}
use Rattle.spg_turn.proofs.Turns.{looks_at}
use Rattle.spg_turn.proofs.turn.Turn.wait.Goals as goal

pub load-now-requires : goal.load-now-requires
load-now-requires g c =
    let sized = c.args.self.now.sized in
    let w = c.requires.waiting in (
      c.begin_sleep.ensures.same.0 ∙ (c.loop.invariant.0 ∙ c.requires.own),
      omega arith,
      looks_at g.S.Recorded.entries g.S.Recorded.seat_of g.S.Recorded.origin_of _ _ _ _ w.0 (c.begin_sleep.ensures.same.2 ∙ c.loop.invariant.2) w.2 w.3,
    )
