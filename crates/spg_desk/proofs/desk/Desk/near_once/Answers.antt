use Rattle.std.proofs.Common.{[], refl, ap, subst}
use Rattle.spg_turn.specs.Passes.{pass_view, held_view, held_state}
use Rattle.spg_turn.specs.declared.rule.View.{View}
use Rattle.spg_core.specs.Seen.{stage_at}
use Rattle.spg_desk.specs.Acting.{IsStageFor}
use Rattle.spg_desk.specs.Knowing.{doing_at}
use Rattle.spg_desk.proofs.Inserting.{stage_here}
use Rattle.spg_desk.proofs.Nearing.{one_moment, found_then}
use Rattle.spg_desk.proofs.Sections.{adds_none, section_grown, section_did}
use Rattle.spg_desk.proofs.desk.Desk.near_once.Goals as goal

pub nearest_in-found-requires : goal.nearest_in-found-requires
nearest_in-found-requires g c =
    let v = pass_view c.args.going.pass in
    let e = c.enter-held.ensures in
    let s = held_state c.enter-held.result in
    record { free = subst (λ d. IsStageFor d (stage_at c.state-2.result.now c.seat-seat.result)) c.requires.idle (stage_here v (held_view c.enter-held.result) s c.state-2.result.now c.seat-seat.result (doing_at v) e.view c.state-2.ensures c.seat-seat.ensures e.stage) }

pub leave-going-requires-clause-grown : goal.leave-going-requires-clause-grown
leave-going-requires-clause-grown g c =
    let h = held_view c.enter-held.result in
    let s = held_state c.enter-held.result in
    section_grown (pass_view c.args.going.pass) h s s s h.number (λ n. []) c.enter-held.ensures.view refl refl (λ n. tt) (adds_none s s refl)

pub returns-clause-told : goal.returns-clause-told
returns-clause-told g c =
    let h = held_view c.enter-held.result in
    let s = held_state c.enter-held.result in
    section_did g.O.OpClass.meaning (pass_view c.args.going.pass) h (pass_view c.leave-going.result.0.pass) s s s h.number c.leave-going.result.1 (λ n. []) c.enter-held.ensures.view refl refl c.enter-held.ensures.watched (adds_none s s refl) c.leave-going.ensures.told

pub returns-clause-moment : goal.returns-clause-moment
returns-clause-moment g c =
    let h = held_view c.enter-held.result in
    let s = held_state c.enter-held.result in
    one_moment h (pass_view c.leave-going.result.0.pass) s.journal c.leave-going.result.1 (ap (λ (z : View _). z.seen) c.enter-held.ensures.view) c.leave-going.ensures.seen c.leave-going.ensures.span

pub returns-clause-found : goal.returns-clause-found
returns-clause-found g c =
    found_then (pass_view c.leave-going.result.0.pass) (held_state c.enter-held.result) c.state-2.result.now c.args.target c.args.limit c.nearest_in-found.result c.state-2.ensures c.leave-going.ensures.seen c.nearest_in-found.ensures
