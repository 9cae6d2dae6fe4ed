use Rattle.std.proofs.Common.{◌≡◌, Result, Ok, Err, OnOk, OnErr, sym, ap, subst, ◌∙◌}
use Rattle.spg_rows.specs.declared.event.Why.{Why}
use Rattle.spg_core.specs.Seen.{stage_at}
use Rattle.spg_core.specs.Stage.{MayGiveUp}
use Rattle.spg_core.specs.Sections.{GivesUp}
use Rattle.spg_standby.specs.declared.wrote.Wrote.{Wrote}
use Rattle.spg_standby.specs.Writes.{Inserted, came_of}
use Rattle.spg_whole.proofs.Puts.{held_then, still_inserting, not_free, others_idle, put_done}
use Rattle.spg_standby.proofs.Writes.{not_opened, may_give_up, refused_by, inserted_closed}
use Rattle.spg_standby.proofs.inserts.insert.Goals as goal

on_err_of : {T E : Type 0} {P : Type 0} (r : Result T E) (e : E) → r ≡ Err e → OnErr r P → P
on_err_of {T} {E} {P} r e is on = subst (λ (x : Result T E). OnErr x P) is on

on_ok_of : {T E : Type 0} {P : Type 0} (r : Result T E) (t : T) → r ≡ Ok t → OnOk r P → P
on_ok_of {T} {E} {P} r t is on = subst (λ (x : Result T E). OnOk x P) is on

pub open-requires : goal.open-requires
open-requires g c = record { free = c.none_open.ensures c.requires.closed }

pub unopened-requires-clause-held : goal.unopened-requires-clause-held
unopened-requires-clause-held g c = λ by e.
    held_then c.args.state.now c.open.new.state c.args.row by (on_err_of c.open.result c.in-Err.refused c.in-Err.is c.open.ensures.err) (c.open.ensures.row_held by (c.in-Err.is ∙ ap Err e))

pub returns-in-Err-clause-wrote : goal.returns-in-Err-clause-wrote
returns-in-Err-clause-wrote g c =
    not_opened g.O.OpClass.meaning c.args.state.now c.open.new.state c.args.seat c.args.row c.args.key c.in-Err.refused c.unopened.result c.unopened.ensures.is c.unopened.ensures.used.0
    (on_err_of c.open.result c.in-Err.refused c.in-Err.is c.open.ensures.err) (λ e. c.open.ensures.row_used (c.in-Err.is ∙ ap Err e))

pub put-requires-clause-alone : goal.put-requires-clause-alone
put-requires-clause-alone g c = others_idle g.O.OpClass.meaning c.args.state.now c.open.new.state c.args.seat c.args.row c.args.key c.in-Ok.ensures.ok c.requires.closed

pub give_up-requires-clause-open : goal.give_up-requires-clause-open
give_up-requires-clause-open g c = not_free g.O.OpClass.meaning c.args.state.now c.open.new.state c.args.seat c.args.row c.args.key c.in-Ok.ensures.ok c.put.new.state c.in-Err-put.ensures.err

pub give_up-requires-clause-why : goal.give_up-requires-clause-why
give_up-requires-clause-why g c =
    subst (λ (w : Why). MayGiveUp c.put.new.state.table (stage_at c.put.new.state c.args.seat) w) (sym c.cause_of-why.ensures.why)
    (may_give_up g.O.OpClass.meaning c.put.new.state.table (stage_at c.put.new.state c.args.seat) c.in-Err-put.refused (still_inserting g.O.OpClass.meaning c.args.state.now c.open.new.state c.args.seat c.args.row c.args.key c.in-Ok.ensures.ok c.put.new.state c.in-Err-put.ensures.err)
    (λ e. (c.put.ensures.full (c.in-Err-put.is ∙ ap Err e)).1) (λ e. (c.put.ensures.clock (c.in-Err-put.is ∙ ap Err e)).1))

pub returns-in-Ok-put-clause-wrote : goal.returns-in-Ok-put-clause-wrote
returns-in-Ok-put-clause-wrote g c = put_done g.O.OpClass.meaning c.args.state.now c.open.new.state c.args.seat c.args.row c.args.key c.in-Ok.ensures.ok c.put.new.state c.requires.closed c.in-Ok-put.ensures.ok c.put.ensures.grows

pub returns-in-Err-put-clause-wrote : goal.returns-in-Err-put-clause-wrote
returns-in-Err-put-clause-wrote g c =
    subst (λ (w : Wrote). Inserted g.O.OpClass.meaning c.args.state.now c.give_up.new.state c.args.seat c.args.row c.args.key w) (sym c.cause_of-why.ensures.wrote)
    (refused_by g.O.OpClass.meaning c.args.state.now c.open.new.state c.args.seat c.args.row c.args.key c.in-Ok.ensures.ok c.put.new.state c.give_up.new.state c.in-Err-put.refused c.requires.closed c.in-Err-put.ensures.err
    (subst (λ (w : Why). GivesUp c.put.new.state c.give_up.new.state c.args.seat w) c.cause_of-why.ensures.why c.give_up.ensures.up) c.put.ensures.grows
    (λ e. c.put.ensures.full (c.in-Err-put.is ∙ ap Err e)) (λ e. c.put.ensures.clock (c.in-Err-put.is ∙ ap Err e)))

pub returns-in-Ok-put-clause-closed : goal.returns-in-Ok-put-clause-closed
returns-in-Ok-put-clause-closed g c = (put_done g.O.OpClass.meaning c.args.state.now c.open.new.state c.args.seat c.args.row c.args.key c.in-Ok.ensures.ok c.put.new.state c.requires.closed c.in-Ok-put.ensures.ok c.put.ensures.grows).closed

pub returns-in-Err-put-clause-closed : goal.returns-in-Err-put-clause-closed
returns-in-Err-put-clause-closed g c =
    inserted_closed g.O.OpClass.meaning c.args.state.now c.give_up.new.state c.args.seat c.args.row c.args.key (came_of c.in-Err-put.refused)
    (refused_by g.O.OpClass.meaning c.args.state.now c.open.new.state c.args.seat c.args.row c.args.key c.in-Ok.ensures.ok c.put.new.state c.give_up.new.state c.in-Err-put.refused c.requires.closed c.in-Err-put.ensures.err
    (subst (λ (w : Why). GivesUp c.put.new.state c.give_up.new.state c.args.seat w) c.cause_of-why.ensures.why c.give_up.ensures.up) c.put.ensures.grows
    (λ e. c.put.ensures.full (c.in-Err-put.is ∙ ap Err e)) (λ e. c.put.ensures.clock (c.in-Err-put.is ∙ ap Err e)))
    c.requires.closed
