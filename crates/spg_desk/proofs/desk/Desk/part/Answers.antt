use Rattle.std.proofs.Common.{◌≡◌, sym, ap, ◌∙◌, subst, refl}
use Rattle.spg_turn.specs.Passes.{pass_view, held_view, held_state}
use Rattle.spg_desk.specs.Knowing.{doing_at}
use Rattle.spg_desk.specs.declared.ended.Looked.TheVariants as looked
use Rattle.spg_desk.proofs.Sections.{put_inserts}
use Rattle.spg_desk.proofs.Inserting.{stage_here, look_grown, look_origin, look_told}
use Rattle.spg_desk.proofs.desk.Desk.part.Goals as goal

pub part_on-end-requires : goal.part_on-end-requires
part_on-end-requires g c =
    let v = pass_view c.args.going.pass in
    let e = c.enter-held.ensures in
    record { inserting = put_inserts (doing_at v) _ c.requires.putting (stage_here v (held_view c.enter-held.result) (held_state c.enter-held.result) c.state_mut.result.now c.seat-seat.result (doing_at v) e.view c.state_mut.ensures.value c.seat-seat.ensures e.stage) }

pub leave-going-requires-clause-grown : goal.leave-going-requires-clause-grown
leave-going-requires-clause-grown g c =
    let v = pass_view c.args.going.pass in
    let e = c.enter-held.ensures in
    look_grown g.O.OpClass.meaning v (held_view c.enter-held.result) (held_state c.enter-held.result) c.state_mut.result.now c.part_on-end.new.bare c.seat-seat.result (looked.Stepped c.part_on-end.result) e.view c.state_mut.ensures.value c.seat-seat.ensures e.stage c.requires.putting c.part_on-end.ensures.puts

pub leave-going-requires-clause-origin : goal.leave-going-requires-clause-origin
leave-going-requires-clause-origin g c =
    let v = pass_view c.args.going.pass in
    let e = c.enter-held.ensures in
    look_origin g.O.OpClass.meaning v (held_view c.enter-held.result) (held_state c.enter-held.result) c.state_mut.result.now c.part_on-end.new.bare c.seat-seat.result (looked.Stepped c.part_on-end.result) e.view c.state_mut.ensures.value c.seat-seat.ensures e.stage c.requires.putting c.part_on-end.ensures.puts e.origin

pub returns-clause-told : goal.returns-clause-told
returns-clause-told g c =
    let v = pass_view c.args.going.pass in
    let e = c.enter-held.ensures in
    let l = c.leave-going.ensures in
    look_told g.O.OpClass.meaning v (held_view c.enter-held.result) (pass_view c.leave-going.result.0.pass) (held_state c.enter-held.result) c.state_mut.result.now c.part_on-end.new.bare c.seat-seat.result c.leave-going.result.1 (looked.Stepped c.part_on-end.result) e.view c.state_mut.ensures.value c.seat-seat.ensures e.watched e.stage c.requires.putting c.part_on-end.ensures.puts e.origin l.seen l.span l.told
