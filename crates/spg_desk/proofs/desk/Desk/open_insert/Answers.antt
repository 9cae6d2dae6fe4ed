use Rattle.std.proofs.Common.{◌≡◌, sym, ap, ◌∙◌, subst, refl}
use Rattle.spg_turn.specs.Passes.{pass_view, held_view, held_state}
use Rattle.spg_desk.specs.Knowing.{doing_at}
use Rattle.spg_core.specs.Seen.{stage_at}
use Rattle.spg_calls.specs.Doing.{idle}
use Rattle.spg_desk.specs.Acting.{open_events, IsStageFor}
use Rattle.spg_desk.proofs.Sections.{open_adds, open_each, open_told, section_grown, section_did, section_past}
use Rattle.spg_desk.proofs.Inserting.{stage_here}
use Rattle.spg_desk.proofs.desk.Desk.open_insert.Goals as goal

pub leave-going-requires-clause-grown : goal.leave-going-requires-clause-grown
leave-going-requires-clause-grown g c =
    let v = pass_view c.args.going.pass in
    let e = c.enter-held.ensures in
    section_grown v (held_view c.enter-held.result) (held_state c.enter-held.result) c.state_mut.result.now c.open_insert-opened.new.self c.seat-seat.result (λ n. open_events n c.args.row c.args.started c.open_insert-opened.result) e.view c.state_mut.ensures.value c.seat-seat.ensures (open_each c.args.row c.args.started (λ n. open_events n c.args.row c.args.started c.open_insert-opened.result) c.open_insert-opened.result (λ n. refl)) (open_adds g.O.OpClass.meaning c.state_mut.result.now c.open_insert-opened.new.self c.seat-seat.result c.args.row c.args.started c.open_insert-opened.result c.open_insert-opened.ensures.ok c.open_insert-opened.ensures.err)

pub returns-clause-told : goal.returns-clause-told
returns-clause-told g c =
    let m = g.O.OpClass.meaning in
    let v = pass_view c.args.going.pass in
    let e = c.enter-held.ensures in
    let told =
    section_did m v (held_view c.enter-held.result) (pass_view c.leave-going.result.0.pass) (held_state c.enter-held.result) c.state_mut.result.now c.open_insert-opened.new.self c.seat-seat.result c.leave-going.result.1 (λ n. open_events n c.args.row c.args.started c.open_insert-opened.result)
    e.view c.state_mut.ensures.value c.seat-seat.ensures e.watched (open_adds g.O.OpClass.meaning c.state_mut.result.now c.open_insert-opened.new.self c.seat-seat.result c.args.row c.args.started c.open_insert-opened.result c.open_insert-opened.ensures.ok c.open_insert-opened.ensures.err) c.leave-going.ensures.told in
    open_told m v (pass_view c.leave-going.result.0.pass) c.state_mut.result.now c.leave-going.result.1 c.args.row c.args.started c.open_insert-opened.result told (section_past v (held_view c.enter-held.result) (pass_view c.leave-going.result.0.pass) (held_state c.enter-held.result) c.state_mut.result.now c.open_insert-opened.new.self c.leave-going.result.1 _ e.view c.state_mut.ensures.value (open_adds g.O.OpClass.meaning c.state_mut.result.now c.open_insert-opened.new.self c.seat-seat.result c.args.row c.args.started c.open_insert-opened.result c.open_insert-opened.ensures.ok c.open_insert-opened.ensures.err) c.leave-going.ensures.seen c.leave-going.ensures.span) c.open_insert-opened.ensures.row_used c.open_insert-opened.ensures.row_held
