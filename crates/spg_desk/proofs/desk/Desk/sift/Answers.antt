use Rattle.std.proofs.Common.{◌≡◌, sym, ap, ◌∙◌, subst, refl}
use Rattle.spg_turn.specs.Passes.{pass_view, held_view, held_state}
use Rattle.spg_desk.specs.Knowing.{doing_at}
use Rattle.spg_desk.specs.Acting.{readings}
use Rattle.spg_desk.proofs.Sections.{scan_reads, readings_each, section_grown, section_did}
use Rattle.spg_desk.proofs.Inserting.{stage_here}
use Rattle.spg_desk.proofs.desk.Desk.sift.Goals as goal

pub sift_on-read-requires : goal.sift_on-read-requires
sift_on-read-requires g c =
    let v = pass_view c.args.going.pass in
    let e = c.enter-held.ensures in
    record { reading = scan_reads (doing_at v) _ c.requires.scanning (stage_here v (held_view c.enter-held.result) (held_state c.enter-held.result) c.state_mut.result.now c.seat-seat.result (doing_at v) e.view c.state_mut.ensures.value c.seat-seat.ensures e.stage) }

pub leave-going-requires-clause-grown : goal.leave-going-requires-clause-grown
leave-going-requires-clause-grown g c =
    let v = pass_view c.args.going.pass in
    let e = c.enter-held.ensures in
    section_grown v (held_view c.enter-held.result) (held_state c.enter-held.result) c.state_mut.result.now c.sift_on-read.new.bare c.seat-seat.result (λ n. readings n c.sift_on-read.result) e.view c.state_mut.ensures.value c.seat-seat.ensures (readings_each c.sift_on-read.result) (c.sift_on-read.ensures.adds)

pub returns-clause-told : goal.returns-clause-told
returns-clause-told g c =
    let v = pass_view c.args.going.pass in
    let e = c.enter-held.ensures in
    section_did g.O.OpClass.meaning v (held_view c.enter-held.result) (pass_view c.leave-going.result.0.pass) (held_state c.enter-held.result) c.state_mut.result.now c.sift_on-read.new.bare c.seat-seat.result c.leave-going.result.1 (λ n. readings n c.sift_on-read.result)
    e.view c.state_mut.ensures.value c.seat-seat.ensures e.watched (c.sift_on-read.ensures.adds) c.leave-going.ensures.told
