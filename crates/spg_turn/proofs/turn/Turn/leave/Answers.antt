use Rattle.std.proofs.Common.{arith, refl, ◌≡◌, ◌+◌, ◌-◌, ◌∷◌, [], ap, ◌∙◌, Some, length, length-append}
use Rattle.atomic_table.specs.Table.{rest}
use Rattle.spg_turn.specs.Views.{grown}
use Rattle.spg_turn.proofs.Turns.{extends_at, serves_at}
use Rattle.spg_turn.proofs.turn.Turn.leave.Goals as goal

pub fetch_add-requires : goal.fetch_add-requires
fetch_add-requires g c =
    let h = c.args.held in
    let ent = g.S.Recorded.entries in
    let sized = c.args.self.now.sized in
    let is : c.exchange-found.new.seat.me ≡ (h.seat.me.0, (0, Some h.state) ∷ []) = c.exchange-found.ensures.3 ∙ ap (λ l. (h.seat.me.0, (0, Some h.state) ∷ rest l)) h.holding.0 in
    let more = c.requires.grown.0 in
    let long : length (ent h.state) ≡ length h.seat.me.0.seen + length more = ap length c.requires.grown.1 ∙ length-append h.seat.me.0.seen more in
    let seen : length h.seat.me.0.seen ≡ h.seen = h.holding.6 in
    let len = c.len-len.ensures in
    let fits = c.len-len.type_inv in
    let count : length h.seat.me.0.seen + (c.len-len.result - h.seen) ≡ length (ent h.state) = omega arith in (
      c.exchange-found.ensures.0 ∙ c.requires.own,
      omega arith,
      extends_at ent g.S.Recorded.seat_of g.S.Recorded.origin_of _ _ _ _ h.seat.me.0 h.state more is h.holding.1 h.holding.2 c.requires.grown.1 c.requires.grown.2 count (omega arith),
    )

pub fetch_add-ticket-requires : goal.fetch_add-ticket-requires
fetch_add-ticket-requires g c =
    let h = c.args.held in
    let ent = g.S.Recorded.entries in
    let sized = c.args.self.now.sized in
    let is : c.exchange-found.new.seat.me ≡ (h.seat.me.0, (0, Some h.state) ∷ []) = c.exchange-found.ensures.3 ∙ ap (λ l. (h.seat.me.0, (0, Some h.state) ∷ rest l)) h.holding.0 in
    let is' : c.fetch_add.new.seat.me ≡ (grown h.seat.me.0 (ent h.state), (0, Some h.state) ∷ []) =
    c.fetch_add.ensures.2 h.state (ap (λ m. m.1) is) ∙ ap (λ m. (grown m.0 (ent h.state), m.1)) is in (
      c.fetch_add.ensures.0 ∙ (c.exchange-found.ensures.0 ∙ c.requires.own),
      omega arith,
      serves_at ent g.S.Recorded.seat_of g.S.Recorded.origin_of _ _ _ (grown h.seat.me.0 (ent h.state)) h.state is' h.holding.1 h.holding.2 refl c.requires.origin,
    )
