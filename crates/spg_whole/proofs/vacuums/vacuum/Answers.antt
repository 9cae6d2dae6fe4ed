use Rattle.std.proofs.Common.{◌≡◌, Result, Ok, OnOk, subst}
use Rattle.spg_whole.proofs.Ending.{opens_alone}
use Rattle.spg_whole.proofs.Cleaning.{vacuumed, vacuumed_not}
use Rattle.spg_whole.proofs.vacuums.vacuum.Goals as goal

on_ok_of : {T E : Type 0} {P : Type 0} (r : Result T E) (t : T) → r ≡ Ok t → OnOk r P → P
on_ok_of {T} {E} {P} r t is on = subst (λ (x : Result T E). OnOk x P) is on

pub sweep_all-requires-clause-alone_too : goal.sweep_all-requires-clause-alone_too
sweep_all-requires-clause-alone_too g c = opens_alone g.O.OpClass.meaning c.args.state.now c.open_vacuum.new.self c.args.seat (on_ok_of c.open_vacuum.result c.in-Ok.field-0 c.in-Ok.is c.open_vacuum.ensures.ok)

pub returns-in-Ok-sweep_all-clause-ok : goal.returns-in-Ok-sweep_all-clause-ok
returns-in-Ok-sweep_all-clause-ok g c =
    vacuumed c.args.state.now c.open_vacuum.new.self c.args.seat (on_ok_of c.open_vacuum.result c.in-Ok.field-0 c.in-Ok.is c.open_vacuum.ensures.ok) g.O.OpClass.meaning c.sweep_all.new.state c.in-Ok-sweep_all.swept
    c.requires.closed c.in-Ok-sweep_all.ensures.ok c.right.ensures

pub returns-in-Err-clause-err : goal.returns-in-Err-clause-err
returns-in-Err-clause-err g c =
    vacuumed_not c.args.state.now c.open_vacuum.new.self c.args.seat (on_ok_of c.open_vacuum.result c.in-Ok.field-0 c.in-Ok.is c.open_vacuum.ensures.ok) c.sweep_all.new.state c.abandon.new.self c.requires.closed c.in-Err.ensures.err c.abandon.ensures.up
