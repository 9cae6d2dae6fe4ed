use Rattle.std.proofs.Common.{◌∷◌, Some, arith, sym, ap, ◌∙◌}
use Rattle.atomic_table.specs.Table.{rest}
use Rattle.spg_turn.proofs.Turns.{draws}
use Rattle.spg_turn.proofs.turn.Turn.enter_after.Goals as goal

pub fetch_add-ticket-requires : goal.fetch_add-ticket-requires
fetch_add-ticket-requires g c =
    let rest = c.args.pass.resting in
    let sized = c.args.self.now.sized in (
      c.requires.own,
      omega arith,
      draws g.S.Recorded.entries g.S.Recorded.seat_of g.S.Recorded.origin_of _ _ _ rest.1 rest.2,
    )

pub exchange-found-requires : goal.exchange-found-requires
exchange-found-requires g c =
    let took = c.wait.ensures.took in
    let y = took.1 in
    let is = ap (λ m. m.1) took.2.0 in (
      c.wait.ensures.own.0 ∙ (c.fetch_add-ticket.ensures.0 ∙ c.requires.own),
      (Some y, is ∙ ap (λ l. (0, Some y) ∷ rest l) (sym is)),
    )
