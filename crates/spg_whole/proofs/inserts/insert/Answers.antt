use Rattle.std.proofs.Common.{inr, ◌≡◌, Result, Ok, Err, OnOk, OnErr, ap, subst, ◌∙◌}
use Rattle.spg_rows.specs.declared.event.Why.TheVariants as why
use Rattle.spg_whole.proofs.Puts.{held_then, not_opened, still_inserting, not_free, put_done, gave_up, heavy, near, at_end}
use Rattle.spg_whole.proofs.inserts.insert.Goals as goal

on_err_of : {T E : Type 0} {P : Type 0} (r : Result T E) (e : E) → r ≡ Err e → OnErr r P → P
on_err_of {T} {E} {P} r e is on = subst (λ (x : Result T E). OnErr x P) is on

on_ok_of : {T E : Type 0} {P : Type 0} (r : Result T E) (t : T) → r ≡ Ok t → OnOk r P → P
on_ok_of {T} {E} {P} r t is on = subst (λ (x : Result T E). OnOk x P) is on

pub unopened-requires-clause-held : goal.unopened-requires-clause-held
unopened-requires-clause-held g c = λ by e.
    held_then c.args.state.now c.open_insert.new.self c.args.row by (on_err_of c.open_insert.result c.in-Err.refused c.in-Err.is c.open_insert.ensures.err) ((c.open_insert.ensures.row_held by).0 (c.in-Err.is ∙ ap Err e))

pub returns-in-Err-clause-err : goal.returns-in-Err-clause-err
returns-in-Err-clause-err g c =
    not_opened g.O.OpClass.meaning c.args.state.now c.open_insert.new.self c.args.seat c.args.row c.args.key c.in-Err.refused c.unopened.result c.unopened.ensures.is
    (on_err_of c.open_insert.result c.in-Err.refused c.in-Err.is c.open_insert.ensures.err) (λ e. c.open_insert.ensures.row_used.0 (c.in-Err.is ∙ ap Err e))

pub abandon-requires-clause-open : goal.abandon-requires-clause-open
abandon-requires-clause-open g c = not_free g.O.OpClass.meaning c.args.state.now c.open_insert.new.self c.args.seat c.args.row c.args.key (on_ok_of c.open_insert.result c.in-Ok.field-0 c.in-Ok.is c.open_insert.ensures.ok) c.put.new.state c.in-Err-IndexFull.ensures.err

pub abandon-requires-clause-why : goal.abandon-requires-clause-why
abandon-requires-clause-why g c = (still_inserting g.O.OpClass.meaning c.args.state.now c.open_insert.new.self c.args.seat c.args.row c.args.key (on_ok_of c.open_insert.result c.in-Ok.field-0 c.in-Ok.is c.open_insert.ensures.ok) c.put.new.state c.in-Err-IndexFull.ensures.err, (c.put.ensures.full (c.in-Err-IndexFull.is ∙ ap Err c.in-Err-IndexFull.field-0-is)).1)

pub abandon-requires-in-Err-ClockFull-clause-open : goal.abandon-requires-in-Err-ClockFull-clause-open
abandon-requires-in-Err-ClockFull-clause-open g c = not_free g.O.OpClass.meaning c.args.state.now c.open_insert.new.self c.args.seat c.args.row c.args.key (on_ok_of c.open_insert.result c.in-Ok.field-0 c.in-Ok.is c.open_insert.ensures.ok) c.put.new.state c.in-Err-ClockFull.ensures.err

pub abandon-requires-in-Err-ClockFull-clause-why : goal.abandon-requires-in-Err-ClockFull-clause-why
abandon-requires-in-Err-ClockFull-clause-why g c = (still_inserting g.O.OpClass.meaning c.args.state.now c.open_insert.new.self c.args.seat c.args.row c.args.key (on_ok_of c.open_insert.result c.in-Ok.field-0 c.in-Ok.is c.open_insert.ensures.ok) c.put.new.state c.in-Err-ClockFull.ensures.err, (c.put.ensures.clock (c.in-Err-ClockFull.is ∙ ap Err c.in-Err-ClockFull.field-0-is)).1)

pub abandon-requires-in-Err-Memory-clause-open : goal.abandon-requires-in-Err-Memory-clause-open
abandon-requires-in-Err-Memory-clause-open g c = not_free g.O.OpClass.meaning c.args.state.now c.open_insert.new.self c.args.seat c.args.row c.args.key (on_ok_of c.open_insert.result c.in-Ok.field-0 c.in-Ok.is c.open_insert.ensures.ok) c.put.new.state c.in-Err-Memory.ensures.err

pub returns-in-Ok-put-clause-ok : goal.returns-in-Ok-put-clause-ok
returns-in-Ok-put-clause-ok g c = put_done g.O.OpClass.meaning c.args.state.now c.open_insert.new.self c.args.seat c.args.row c.args.key (on_ok_of c.open_insert.result c.in-Ok.field-0 c.in-Ok.is c.open_insert.ensures.ok) c.put.new.state c.requires.closed c.in-Ok-put.ensures.ok c.put.ensures.grows

pub returns-in-Err-IndexFull-clause-err : goal.returns-in-Err-IndexFull-clause-err
returns-in-Err-IndexFull-clause-err g c = (
  gave_up g.O.OpClass.meaning c.args.state.now c.open_insert.new.self c.args.seat c.args.row c.args.key (on_ok_of c.open_insert.result c.in-Ok.field-0 c.in-Ok.is c.open_insert.ensures.ok) why.Full c.put.new.state c.abandon.new.self c.in-Err-IndexFull.ensures.err c.abandon.ensures.up c.requires.closed c.put.ensures.grows,
  heavy g.O.OpClass.meaning c.args.state.now c.open_insert.new.self c.args.seat c.args.row c.args.key (on_ok_of c.open_insert.result c.in-Ok.field-0 c.in-Ok.is c.open_insert.ensures.ok) why.Full c.put.new.state c.abandon.new.self c.in-Err-IndexFull.ensures.err c.abandon.ensures.up (c.put.ensures.full (c.in-Err-IndexFull.is ∙ ap Err c.in-Err-IndexFull.field-0-is)).0,
  near g.O.OpClass.meaning c.args.state.now c.open_insert.new.self c.args.seat c.args.row c.args.key (on_ok_of c.open_insert.result c.in-Ok.field-0 c.in-Ok.is c.open_insert.ensures.ok) why.Full c.put.new.state c.abandon.new.self c.in-Err-IndexFull.ensures.err c.abandon.ensures.up (c.put.ensures.full (c.in-Err-IndexFull.is ∙ ap Err c.in-Err-IndexFull.field-0-is)).1,
)

pub returns-in-Err-ClockFull-clause-err : goal.returns-in-Err-ClockFull-clause-err
returns-in-Err-ClockFull-clause-err g c = (
  gave_up g.O.OpClass.meaning c.args.state.now c.open_insert.new.self c.args.seat c.args.row c.args.key (on_ok_of c.open_insert.result c.in-Ok.field-0 c.in-Ok.is c.open_insert.ensures.ok) why.Clock c.put.new.state c.abandon-in-Err-ClockFull.new.self c.in-Err-ClockFull.ensures.err c.abandon-in-Err-ClockFull.ensures.up c.requires.closed c.put.ensures.grows,
  heavy g.O.OpClass.meaning c.args.state.now c.open_insert.new.self c.args.seat c.args.row c.args.key (on_ok_of c.open_insert.result c.in-Ok.field-0 c.in-Ok.is c.open_insert.ensures.ok) why.Clock c.put.new.state c.abandon-in-Err-ClockFull.new.self c.in-Err-ClockFull.ensures.err c.abandon-in-Err-ClockFull.ensures.up (c.put.ensures.clock (c.in-Err-ClockFull.is ∙ ap Err c.in-Err-ClockFull.field-0-is)).0,
  at_end g.O.OpClass.meaning c.args.state.now c.open_insert.new.self c.args.seat c.args.row c.args.key (on_ok_of c.open_insert.result c.in-Ok.field-0 c.in-Ok.is c.open_insert.ensures.ok) why.Clock c.put.new.state c.abandon-in-Err-ClockFull.new.self c.in-Err-ClockFull.ensures.err c.abandon-in-Err-ClockFull.ensures.up (c.put.ensures.clock (c.in-Err-ClockFull.is ∙ ap Err c.in-Err-ClockFull.field-0-is)).1,
)

pub returns-in-Err-Memory-clause-err : goal.returns-in-Err-Memory-clause-err
returns-in-Err-Memory-clause-err g c = inr (gave_up g.O.OpClass.meaning c.args.state.now c.open_insert.new.self c.args.seat c.args.row c.args.key (on_ok_of c.open_insert.result c.in-Ok.field-0 c.in-Ok.is c.open_insert.ensures.ok) why.Given c.put.new.state c.abandon-in-Err-Memory.new.self c.in-Err-Memory.ensures.err c.abandon-in-Err-Memory.ensures.up c.requires.closed c.put.ensures.grows)
