use Rattle.std.proofs.Common.{◌≡◌, [], ◌∷◌, sym, ap, ◌∙◌, subst, refl}
use Rattle.spg_turn.specs.Passes.{pass_view, held_view, held_state}
use Rattle.spg_desk.specs.Knowing.{doing_at}
use Rattle.spg_desk.specs.Told.{Told}
use Rattle.spg_core.specs.Seen.{stage_at}
use Rattle.spg_calls.specs.Doing.{idle}
use Rattle.spg_desk.specs.Acting.{vacuum_events, IsStageFor}
use Rattle.spg_desk.proofs.Sections.{sweep_adds, sweep_each, section_grown, section_did, section_past}
use Rattle.spg_desk.proofs.Sweeping.{open_swept}
use Rattle.spg_desk.proofs.desk.Desk.open_vacuum.Goals as goal

pub leave-going-requires-clause-grown : goal.leave-going-requires-clause-grown
leave-going-requires-clause-grown g c =
    let v = pass_view c.args.going.pass in
    let e = c.enter-held.ensures in
    section_grown v (held_view c.enter-held.result) (held_state c.enter-held.result) c.state_mut.result.now c.open_on-opened.new.bare c.seat-seat.result (λ n. vacuum_events n c.open_on-opened.result) e.view c.state_mut.ensures.value c.seat-seat.ensures
    (sweep_each (λ n. vacuum_events n c.open_on-opened.result) c.open_on-opened.result (λ n. refl)) (sweep_adds c.state_mut.result.now c.open_on-opened.new.bare c.seat-seat.result c.open_on-opened.result c.open_on-opened.ensures.ok c.open_on-opened.ensures.err)

pub returns-clause-told : goal.returns-clause-told
returns-clause-told g c =
    let m = g.O.OpClass.meaning in
    let v = pass_view c.args.going.pass in
    let w = pass_view c.leave-going.result.0.pass in
    let e = c.enter-held.ensures in
    let old = c.state_mut.result.now in
    let new = c.open_on-opened.new.bare in
    let r = c.open_on-opened.result in
    let adds = sweep_adds old new c.seat-seat.result r c.open_on-opened.ensures.ok c.open_on-opened.ensures.err in
    let told = section_did m v (held_view c.enter-held.result) w (held_state c.enter-held.result) old new c.seat-seat.result c.leave-going.result.1 (λ n. vacuum_events n r) e.view c.state_mut.ensures.value c.seat-seat.ensures e.watched adds c.leave-going.ensures.told in
    let past = section_past v (held_view c.enter-held.result) w (held_state c.enter-held.result) old new c.leave-going.result.1 _ e.view c.state_mut.ensures.value adds c.leave-going.ensures.seen c.leave-going.ensures.span in
    open_swept m v w old c.leave-going.result.1 r told past c.open_on-opened.ensures.open c.open_on-opened.ensures.memory
