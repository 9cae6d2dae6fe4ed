use Rattle.std.proofs.Common.{◌≡◌, sym, ap, ◌∙◌, subst, refl}
use Rattle.spg_turn.specs.Passes.{pass_view, held_view, held_state}
use Rattle.spg_desk.specs.Knowing.{doing_at}
use Rattle.spg_core.specs.Seen.{stage_at}
use Rattle.spg_calls.specs.Doing.{idle}
use Rattle.spg_desk.specs.Acting.{scan_events, IsStageFor}
use Rattle.spg_desk.proofs.Sections.{scan_adds, scan_each, section_grown, section_did}
use Rattle.spg_desk.proofs.Inserting.{stage_here}
use Rattle.spg_desk.proofs.desk.Desk.open_scan.Goals as goal

pub leave-going-requires-clause-grown : goal.leave-going-requires-clause-grown
leave-going-requires-clause-grown g c =
    let v = pass_view c.args.going.pass in
    let e = c.enter-held.ensures in
    section_grown v (held_view c.enter-held.result) (held_state c.enter-held.result) c.state_mut.result.now c.open_scan-opened.new.self c.seat-seat.result (λ n. scan_events n c.args.query c.open_scan-opened.result) e.view c.state_mut.ensures.value c.seat-seat.ensures (scan_each c.args.query c.open_scan-opened.result) (scan_adds g.O.OpClass.meaning c.state_mut.result.now c.open_scan-opened.new.self c.seat-seat.result c.args.query c.open_scan-opened.result c.open_scan-opened.ensures.ok c.open_scan-opened.ensures.err)

pub returns-clause-told : goal.returns-clause-told
returns-clause-told g c =
    let v = pass_view c.args.going.pass in
    let e = c.enter-held.ensures in
    section_did g.O.OpClass.meaning v (held_view c.enter-held.result) (pass_view c.leave-going.result.0.pass) (held_state c.enter-held.result) c.state_mut.result.now c.open_scan-opened.new.self c.seat-seat.result c.leave-going.result.1 (λ n. scan_events n c.args.query c.open_scan-opened.result)
    e.view c.state_mut.ensures.value c.seat-seat.ensures e.watched (scan_adds g.O.OpClass.meaning c.state_mut.result.now c.open_scan-opened.new.self c.seat-seat.result c.args.query c.open_scan-opened.result c.open_scan-opened.ensures.ok c.open_scan-opened.ensures.err) c.leave-going.ensures.told
