use Rattle.std.proofs.Common.{◌≡◌, [], ◌∷◌, ◌++◌, Some, ap, ◌∙◌}
use Rattle.spg_turn.proofs.Ends.{begins}
use Rattle.spg_turn.proofs.turn.Turn.new.Goals as goal

pub new-requires : goal.new-requires
new-requires g c =
    let ent = g.S.Recorded.entries in
    let org = g.S.Recorded.origin_of in
    let slots : c.push_reserved.new.self.items ≡ Some c.args.state ∷ [] =
    c.push_reserved.ensures.items ∙ ap (λ l. l ++ Some c.args.state ∷ []) (c.reserve.ensures.items ∙ c.new-slots.ensures.items) in
    rw (slots, c.of-about.ensures) (begins ent g.S.Recorded.seat_of org c.args.state c.len-len.result _ c.len-len.ensures)
