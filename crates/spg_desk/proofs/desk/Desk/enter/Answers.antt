use Rattle.std.proofs.Common.{◌≡◌, sym, ap, ◌∙◌, subst}
use Rattle.spg_turn.specs.Passes.{pass_view, held_view, held_state}
use Rattle.spg_desk.specs.Knowing.{IsLent}
use Rattle.spg_desk.proofs.Views.{own_is, turn_lent, turn_watched}
use Rattle.spg_desk.proofs.Sections.{enter_stage}
use Rattle.spg_desk.proofs.desk.Desk.enter.Goals as goal

pub returns-clause-lent : goal.returns-clause-lent
returns-clause-lent g c =
    let h = c.enter-held.ensures in
    let v = pass_view c.args.going.pass in
    subst IsLent (sym h.view) (turn_lent v _ c.args.going.passed h.begins (sym (own_is v.number _) ∙ h.entries))

pub returns-clause-watched : goal.returns-clause-watched
returns-clause-watched g c =
    let h = c.enter-held.ensures in
    let v = pass_view c.args.going.pass in
    turn_watched v _ c.args.going.passed h.begins (sym (own_is v.number _) ∙ h.entries)

pub returns-clause-stage : goal.returns-clause-stage
returns-clause-stage g c =
    let h = c.enter-held.ensures in
    let v = pass_view c.args.going.pass in
    let lent = subst IsLent (sym h.view) (turn_lent v _ c.args.going.passed h.begins (sym (own_is v.number _) ∙ h.entries)) in
    enter_stage v _ (held_state c.enter-held.result) c.seat-seat.result h.view lent c.seat-seat.ensures (rw c.state.ensures at c.open_of-open.ensures.journal)
