use Rattle.std.proofs.Common.{◌≡◌, [], refl}
use Rattle.spg_turn.specs.Passes.{pass_view, held_view, held_state}
use Rattle.spg_desk.proofs.Sections.{adds_none, section_grown, section_did}
use Rattle.spg_desk.proofs.desk.Desk.look.Goals as goal

pub leave-going-requires-clause-grown : goal.leave-going-requires-clause-grown
leave-going-requires-clause-grown g c =
    let h = held_view c.enter-held.result in
    let s = held_state c.enter-held.result in
    section_grown (pass_view c.args.going.pass) h s s s h.number (λ n. []) c.enter-held.ensures.view refl refl (λ n. tt) (adds_none s s refl)

pub returns-clause-told : goal.returns-clause-told
returns-clause-told g c =
    let h = held_view c.enter-held.result in
    let s = held_state c.enter-held.result in
    section_did g.O.OpClass.meaning (pass_view c.args.going.pass) h (pass_view c.leave-going.result.0.pass) s s s h.number c.leave-going.result.1 (λ n. []) c.enter-held.ensures.view refl refl c.enter-held.ensures.watched (adds_none s s refl) c.leave-going.ensures.told
