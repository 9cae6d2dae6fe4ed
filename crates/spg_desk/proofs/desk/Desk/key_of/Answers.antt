use Rattle.std.proofs.Common.{◌≡◌, reverse, sym, ap, ◌∙◌}
use Rattle.spg_seats.specs.Slots.{kept_key}
use Rattle.spg_turn.specs.Passes.{pass_view, held_view, held_state}
use Rattle.spg_turn.specs.declared.rule.View.{View}
use Rattle.spg_desk.specs.Knowing.{doing_at}
use Rattle.spg_desk.specs.Passes.{view_of}
use Rattle.spg_desk.proofs.Moments.{looks_then, moment_then}
use Rattle.spg_desk.proofs.desk.Desk.key_of.Goals as goal

pub end_look-pass-requires-clause-same : goal.end_look-pass-requires-clause-same
end_look-pass-requires-clause-same g c = sym (ap (λ (z : View _). z.seen) c.enter-held.ensures.view)

pub end_look-pass-requires-clause-idle : goal.end_look-pass-requires-clause-idle
end_look-pass-requires-clause-idle g c = ap doing_at c.enter-held.ensures.view ∙ c.args.pass.idle

pub returns-in-Ok-clause-did : goal.returns-in-Ok-clause-did
returns-in-Ok-clause-did g c =
    let m = g.O.OpClass.meaning in
    let e = c.enter-held.ensures in
    let v = view_of c.args.pass in
    let h = held_view c.enter-held.result in
    let w = view_of c.end_look-pass.result.0 in (
      looks_then m v h w (held_state c.enter-held.result) c.end_look-pass.result.1 e.view e.watched c.end_look-pass.ensures.looks,
      moment_then m (λ o l. c.in-Ok.key ≡ kept_key c.args.row (reverse l)) v h w (held_state c.enter-held.result) c.state.result.now c.state.ensures e.origin e.view c.end_look-pass.ensures.seen (rw c.in-Ok.is at c.key_in-copied.ensures),
    )

pub returns-in-Err-clause-did : goal.returns-in-Err-clause-did
returns-in-Err-clause-did g c =
    let e = c.enter-held.ensures in
    looks_then g.O.OpClass.meaning (view_of c.args.pass) (held_view c.enter-held.result) (view_of c.end_look-pass.result.0) (held_state c.enter-held.result) c.end_look-pass.result.1 e.view e.watched c.end_look-pass.ensures.looks
