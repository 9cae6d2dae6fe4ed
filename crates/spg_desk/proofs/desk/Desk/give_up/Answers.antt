use Rattle.std.proofs.Common.{◌≡◌, sym, ap, ◌∙◌, subst, refl}
use Rattle.spg_turn.specs.Passes.{pass_view, held_view, held_state}
use Rattle.spg_desk.specs.Knowing.{doing_at}
use Rattle.spg_desk.specs.Acting.{left_by}
use Rattle.std.proofs.Common.{[], ◌∷◌}
use Rattle.spg_desk.proofs.Sections.{doing_open, left_each, section_grown, section_did}
use Rattle.spg_desk.proofs.Inserting.{stage_here}
use Rattle.spg_desk.proofs.desk.Desk.give_up.Goals as goal

pub give_up-requires : goal.give_up-requires
give_up-requires g c =
    let v = pass_view c.args.going.pass in
    let e = c.enter-held.ensures in
    record { operating = doing_open (doing_at v) _ c.requires.operating (stage_here v (held_view c.enter-held.result) (held_state c.enter-held.result) c.state_mut.result.now c.seat-seat.result (doing_at v) e.view c.state_mut.ensures.value c.seat-seat.ensures e.stage) }

pub leave-going-requires-clause-grown : goal.leave-going-requires-clause-grown
leave-going-requires-clause-grown g c =
    let v = pass_view c.args.going.pass in
    let e = c.enter-held.ensures in
    let here = stage_here v (held_view c.enter-held.result) (held_state c.enter-held.result) c.state_mut.result.now c.seat-seat.result (doing_at v) e.view c.state_mut.ensures.value c.seat-seat.ensures e.stage in
    section_grown v (held_view c.enter-held.result) (held_state c.enter-held.result) c.state_mut.result.now c.give_up.new.bare c.seat-seat.result (λ n. left_by n (doing_at v) ∷ []) e.view c.state_mut.ensures.value c.seat-seat.ensures (left_each (doing_at v)) (c.give_up.ensures (doing_at v) here)

pub returns-clause-told : goal.returns-clause-told
returns-clause-told g c =
    let v = pass_view c.args.going.pass in
    let e = c.enter-held.ensures in
    let here = stage_here v (held_view c.enter-held.result) (held_state c.enter-held.result) c.state_mut.result.now c.seat-seat.result (doing_at v) e.view c.state_mut.ensures.value c.seat-seat.ensures e.stage in
    section_did g.O.OpClass.meaning v (held_view c.enter-held.result) (pass_view c.leave-going.result.0.pass) (held_state c.enter-held.result) c.state_mut.result.now c.give_up.new.bare c.seat-seat.result c.leave-going.result.1 (λ n. left_by n (doing_at v) ∷ [])
    e.view c.state_mut.ensures.value c.seat-seat.ensures e.watched (c.give_up.ensures (doing_at v) here) c.leave-going.ensures.told
