use Rattle.std.proofs.Common.{◌≡◌, length, drop, refl, ap, ◌∙◌}
use Rattle.spg_opclass.specs.Meaning.{Meaning}
use Rattle.spg_rows.specs.Right.{Right}
use Rattle.spg_turn.specs.Passes.{pass_view, held_view, held_state}
use Rattle.spg_calls.specs.Calls.{span_at}
use Rattle.spg_desk.specs.Told.{Told}
use Rattle.spg_desk.proofs.Views.{all_each, turn_left, told_passed}
use Rattle.spg_desk.proofs.desk.Desk.leave.Goals as goal

pub leave-pass-requires-clause-grown : goal.leave-pass-requires-clause-grown
leave-pass-requires-clause-grown g c = (c.requires.grown.0, c.requires.grown.1, all_each _ _ c.requires.grown.2)

pub returns-clause-told : goal.returns-clause-told
returns-clause-told g c =
    let m = g.O.OpClass.meaning in
    let h = held_view c.args.held in
    let s = held_state c.args.held in
    let right : Right m s.journal = rw c.state.ensures at c.journal.ensures.right in
    turn_left m h (pass_view c.leave-pass.result) s.journal c.args.from c.len-to.result c.requires.lent c.requires.grown right c.leave-pass.ensures.view c.requires.from
    (c.len-to.ensures ∙ (ap length c.journal.ensures.events ∙ ap (λ z. length z.journal) c.state.ensures))

pub invariant_of-result : goal.invariant_of-result
invariant_of-result g c =
    let m = g.O.OpClass.meaning in
    let h = held_view c.args.held in
    let s = held_state c.args.held in
    let lent = c.requires.lent in
    let right : Right m s.journal = rw c.state.ensures at c.journal.ensures.right in
    let told : Told m h (pass_view c.leave-pass.result) (span_at (length h.seen) (length s.journal)) (drop (length h.seen) s.journal) = turn_left m h (pass_view c.leave-pass.result) s.journal (length h.seen) (length s.journal) lent c.requires.grown right c.leave-pass.ensures.view refl refl in
    record { passed = told_passed m h (pass_view c.leave-pass.result) (span_at (length h.seen) (length s.journal)) (drop (length h.seen) s.journal) lent.based lent.before lent.kept told }
