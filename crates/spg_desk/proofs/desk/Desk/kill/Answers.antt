use Rattle.std.proofs.Common.{◌≡◌, sym, ap, ◌∙◌, subst, refl}
use Rattle.spg_rows.specs.Legal.{IsLegal}
use Rattle.spg_core.specs.Seen.{past_of}
use Rattle.spg_turn.specs.Passes.{pass_view, held_view, held_state}
use Rattle.spg_desk.specs.Acting.{kill_events}
use Rattle.spg_desk.specs.Passes.{view_of}
use Rattle.spg_desk.proofs.Sections.{kill_adds, kill_each, section_grown, section_did, section_past}
use Rattle.spg_desk.proofs.Calls.{killed, kill_idle}
use Rattle.spg_desk.proofs.Views.{at_rest}
use Rattle.spg_desk.proofs.desk.Desk.kill.Goals as goal

pub leave-going-requires-clause-grown : goal.leave-going-requires-clause-grown
leave-going-requires-clause-grown g c =
    let r = c.kill-killed.result in
    let adds = kill_adds c.state_mut.result.now c.kill-killed.new.self c.seat-seat.result c.args.row r c.kill-killed.ensures.ok c.kill-killed.ensures.err in
    section_grown (view_of c.args.pass) (held_view c.enter-held.result) (held_state c.enter-held.result) c.state_mut.result.now c.kill-killed.new.self c.seat-seat.result (λ n. kill_events n c.args.row r)
    c.enter-held.ensures.view c.state_mut.ensures.value c.seat-seat.ensures (kill_each (λ n. kill_events n c.args.row r) c.args.row r (λ n. refl)) adds

pub invariant_of-result : goal.invariant_of-result
invariant_of-result g c =
    let m = g.O.OpClass.meaning in
    let r = c.kill-killed.result in
    let adds = kill_adds c.state_mut.result.now c.kill-killed.new.self c.seat-seat.result c.args.row r c.kill-killed.ensures.ok c.kill-killed.ensures.err in
    let told =
    section_did m (view_of c.args.pass) (held_view c.enter-held.result) (pass_view c.leave-going.result.0.pass) (held_state c.enter-held.result) c.state_mut.result.now c.kill-killed.new.self c.seat-seat.result c.leave-going.result.1 (λ n. kill_events n c.args.row r)
    c.enter-held.ensures.view c.state_mut.ensures.value c.seat-seat.ensures c.enter-held.ensures.watched adds c.leave-going.ensures.told in
    record { idle = kill_idle m (view_of c.args.pass) (pass_view c.leave-going.result.0.pass) c.args.row c.leave-going.result.1 r c.args.pass.idle told }

pub returns-clause-did : goal.returns-clause-did
returns-clause-did g c =
    let m = g.O.OpClass.meaning in
    let r = c.kill-killed.result in
    let v = view_of c.args.pass in
    let w = pass_view c.leave-going.result.0.pass in
    let old = c.state_mut.result.now in
    let new = c.kill-killed.new.self in
    let adds = kill_adds old new c.seat-seat.result c.args.row r c.kill-killed.ensures.ok c.kill-killed.ensures.err in
    let told =
    section_did m v (held_view c.enter-held.result) w (held_state c.enter-held.result) old new c.seat-seat.result c.leave-going.result.1 (λ n. kill_events n c.args.row r)
    c.enter-held.ensures.view c.state_mut.ensures.value c.seat-seat.ensures c.enter-held.ensures.watched adds c.leave-going.ensures.told in
    let past = section_past v (held_view c.enter-held.result) w (held_state c.enter-held.result) old new c.leave-going.result.1 _ c.enter-held.ensures.view c.state_mut.ensures.value adds c.leave-going.ensures.seen c.leave-going.ensures.span in
    let legal : IsLegal (past_of old) = subst (λ s. IsLegal (past_of s)) (c.state.ensures ∙ sym c.state_mut.ensures.value) c.journal.ensures.right.legal in
    rw c.kill_answer.ensures (killed m v w old new c.seat-seat.result c.args.row c.leave-going.result.1 r told legal past c.kill-killed.ensures.ok c.kill-killed.ensures.live)

pub returns-clause-free : goal.returns-clause-free
returns-clause-free g c =
    let m = g.O.OpClass.meaning in
    let r = c.kill-killed.result in
    let v = view_of c.args.pass in
    let w = pass_view c.leave-going.result.0.pass in
    let adds = kill_adds c.state_mut.result.now c.kill-killed.new.self c.seat-seat.result c.args.row r c.kill-killed.ensures.ok c.kill-killed.ensures.err in
    let told =
    section_did m v (held_view c.enter-held.result) w (held_state c.enter-held.result) c.state_mut.result.now c.kill-killed.new.self c.seat-seat.result c.leave-going.result.1 (λ n. kill_events n c.args.row r)
    c.enter-held.ensures.view c.state_mut.ensures.value c.seat-seat.ensures c.enter-held.ensures.watched adds c.leave-going.ensures.told in
    at_rest m v w c.leave-going.result.1 (kill_events v.number c.args.row r) c.leave-going.result.0.passed told (kill_idle m v w c.args.row c.leave-going.result.1 r c.args.pass.idle told)
