use Rattle.std.proofs.Common.{◌≡◌, [], ◌∷◌, sym, ap, ◌∙◌, subst, refl}
use Rattle.spg_turn.specs.Passes.{pass_view, held_view, held_state}
use Rattle.spg_desk.specs.Knowing.{doing_at}
use Rattle.spg_desk.specs.Told.{Told}
use Rattle.spg_core.specs.Seen.{stage_at}
use Rattle.spg_calls.specs.Doing.{sweeps}
use Rattle.spg_desk.specs.Acting.{sweepings, IsStageFor}
use Rattle.spg_desk.proofs.Sections.{sweepings_each, section_grown, section_origin}
use Rattle.spg_desk.proofs.Inserting.{stage_here}
use Rattle.spg_desk.proofs.Sweeping.{sweep_told}
use Rattle.spg_desk.proofs.desk.Desk.sweep_once.Goals as goal

pub sweep_on-swept-requires : goal.sweep_on-swept-requires
sweep_on-swept-requires g c =
    let v = pass_view c.args.going.pass in
    let e = c.enter-held.ensures in
    record { sweeping = stage_here v (held_view c.enter-held.result) (held_state c.enter-held.result) c.state_mut.result.now c.seat-seat.result sweeps e.view c.state_mut.ensures.value c.seat-seat.ensures (subst (λ d. IsStageFor d (stage_at (held_state c.enter-held.result) v.number)) c.requires.sweeping e.stage) }

pub leave-going-requires-clause-grown : goal.leave-going-requires-clause-grown
leave-going-requires-clause-grown g c =
    let v = pass_view c.args.going.pass in
    let e = c.enter-held.ensures in
    let s = c.sweep_on-swept.ensures.steps in
    section_grown v (held_view c.enter-held.result) (held_state c.enter-held.result) c.state_mut.result.now c.sweep_on-swept.new.bare c.seat-seat.result (λ n. sweepings n s.0 c.sweep_on-swept.result) e.view c.state_mut.ensures.value c.seat-seat.ensures (sweepings_each (λ n. sweepings n s.0 c.sweep_on-swept.result) s.0 c.sweep_on-swept.result (λ n. refl)) s.1

pub leave-going-requires-clause-origin : goal.leave-going-requires-clause-origin
leave-going-requires-clause-origin g c =
    let e = c.enter-held.ensures in
    section_origin (held_view c.enter-held.result) (held_state c.enter-held.result) c.state_mut.result.now c.sweep_on-swept.new.bare _ c.state_mut.ensures.value e.origin c.sweep_on-swept.ensures.steps.1

pub returns-clause-told : goal.returns-clause-told
returns-clause-told g c =
    let v = pass_view c.args.going.pass in
    let e = c.enter-held.ensures in
    sweep_told g.O.OpClass.meaning v (held_view c.enter-held.result) (pass_view c.leave-going.result.0.pass) (held_state c.enter-held.result) c.state_mut.result.now c.sweep_on-swept.new.bare c.seat-seat.result c.leave-going.result.1 c.sweep_on-swept.ensures.steps.0 c.sweep_on-swept.result
    e.view c.state_mut.ensures.value c.seat-seat.ensures e.watched e.lent c.requires.sweeping c.sweep_on-swept.ensures.steps.1 c.leave-going.ensures.seen c.leave-going.ensures.told
