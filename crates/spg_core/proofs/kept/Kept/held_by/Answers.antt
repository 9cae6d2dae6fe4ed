use Rattle.std.proofs.Common.{List, map, sym, ap, ◌∙◌}
use Rattle.spg_rows.specs.Rows.{held_by}
use Rattle.spg_seats.specs.Waiting.{is_sweeping, reads_at, lowest_seat, waits_by}
use Rattle.spg_core.specs.declared.slot.Slot.{Slot}
use Rattle.spg_core.specs.Slot.{stage_of}
use Rattle.spg_core.proofs.Slots.{past_is}
use Rattle.spg_core.proofs.Steps.{stages, swept_waits, others_wait}
use Rattle.spg_core.proofs.kept.Kept.held_by.Goals as goal

pub returns-in_default : goal.returns-in_default
returns-in_default g c =
    let s = c.self.inside in
    sym (ap (held_by c.args.row) (past_is s c.args.self.now c.self.view_is 0) ∙ others_wait g.O.OpClass.meaning s c.self.invariant.0 c.args.row (λ u e. c.in_default.not-Swept u (c.state.ensures ∙ e)))

pub returns-in-None : goal.returns-in-None
returns-in-None g c =
    let m = g.O.OpClass.meaning in
    let s = c.self.inside in
    let row = c.args.row in
    let vacuum = c.in-Swept.vacuum in
    let waits = swept_waits m s c.self.invariant.0 row vacuum (sym c.state.ensures ∙ c.in-Swept.is) in
    c.vacuum_seat.ensures ∙ ap (λ (l : List (Slot _ _ _ _)). lowest_seat is_sweeping 64 (map stage_of l)) c.deref.ensures.value
    ∙ sym (ap (held_by row) (past_is s c.args.self.now c.self.view_is 0) ∙ waits ∙ ap (λ e. waits_by e (stages m s c.self.invariant.0)) (sym c.end_of.ensures ∙ c.in-None.is))

pub returns-in-Some : goal.returns-in-Some
returns-in-Some g c =
    let m = g.O.OpClass.meaning in
    let s = c.self.inside in
    let row = c.args.row in
    let vacuum = c.in-Swept.vacuum in
    let waits = swept_waits m s c.self.invariant.0 row vacuum (sym c.state.ensures ∙ c.in-Swept.is) in
    c.scan_seat.ensures ∙ ap (λ (l : List (Slot _ _ _ _)). lowest_seat (reads_at c.in-Some.at) 64 (map stage_of l)) c.deref-in-Some.ensures.value
    ∙ sym (ap (held_by row) (past_is s c.args.self.now c.self.view_is 0) ∙ waits ∙ ap (λ e. waits_by e (stages m s c.self.invariant.0)) (sym c.end_of.ensures ∙ c.in-Some.is))
