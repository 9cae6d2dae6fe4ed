use Rattle.std.proofs.Common.{rules, ◌≡◌, ◌↔◌, Option, Some, OnOk, IsErrOf, sym, subst}
use Rattle.std.proofs.lemmas.Result.{on_ok_weaker}
use Rattle.spg_rows.specs.Rows.{held_by}
use Rattle.spg_core.specs.declared.answer.OpenRefused.TheVariants as refused
use Rattle.spg_core.specs.Seen.{Seen, past_of, with_class}
use Rattle.spg_core.specs.Sections.{OpensInsert}
use Rattle.spg_core.specs.Runs.{opens_insert}
use Rattle.spg_core.specs.Calls.{IsCall}
use Rattle.spg_core.proofs.Classed.{opens_insert_of, call_of}
use Rattle.spg_core.proofs.state.State.open_insert.Goals as goal
use Rattle.spg_core.proofs.state.State.open_insert.Goals.{in-Ok-may_claim, in-Err-may_claim}

pub returns-in-Ok-clause-row_held : goal.returns-in-Ok-clause-row_held
returns-in-Ok-clause-row_held g c = rw (sym c.self.view_is) c.open_insert.ensures.row_held

pub returns-after-may_claim-clause-row_held : goal.returns-after-may_claim-clause-row_held
returns-after-may_claim-clause-row_held g c = λ by.
    let told : IsErrOf c.may_claim.result (refused.RowHeld by) ↔ (held_by c.args.row (past_of c.args.self.now) ≡ Some by) =
    subst (λ (seen : Seen _ _ _ _). IsErrOf c.may_claim.result (refused.RowHeld by) ↔ (held_by c.args.row (past_of seen) ≡ Some by)) c.self.view_is (c.may_claim.ensures.row_held by) in
    elim c.match-may_claim.branch [
      | in-Ok-may_claim w ↦ search rules
      | in-Err-may_claim w ↦ search rules
    ]

pub returns-in-Ok-clause-ok : goal.returns-in-Ok-clause-ok
returns-in-Ok-clause-ok g c =
    let m = g.O.OpClass.meaning in
    let told = on_ok_weaker c.open_insert.result (opens_insert_of c.self.inside.class m c.self.inside.bare c.open_insert.new.self c.args.seat c.args.self.now c.self.view_is c.args.row c.in-Ok.started) c.open_insert.ensures.ok in
    subst (λ (k : Option _). OnOk c.open_insert.result (OpensInsert m c.args.self.now (with_class c.open_insert.new.self c.self.inside.class) c.args.seat c.args.row k)) c.in-Ok.ensures told

pub returns-in-Ok-clause-call : goal.returns-in-Ok-clause-call
returns-in-Ok-clause-call g c =
    let m = g.O.OpClass.meaning in
    let told = on_ok_weaker c.open_insert.result (call_of c.self.inside.class m c.self.inside.bare c.open_insert.new.self c.args.seat c.args.self.now c.self.view_is (opens_insert c.args.row c.in-Ok.started)) c.open_insert.ensures.call in
    subst (λ (k : Option _). OnOk c.open_insert.result (IsCall m c.args.self.now (with_class c.open_insert.new.self c.self.inside.class) c.args.seat (opens_insert c.args.row k))) c.in-Ok.ensures told
