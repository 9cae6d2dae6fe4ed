use Rattle.spg_whole.proofs.Ending.{opens_alone}
use Rattle.spg_whole.proofs.Cleaning.{others_idle, vacuumed, vacuumed_not, not_free}
use Rattle.spg_standby.specs.declared.wrote.Wrote.TheVariants as came
use Rattle.spg_standby.proofs.Writes.{vacuumed_closed}
use Rattle.spg_standby.proofs.vacuums.vacuum.Goals as goal

pub sweep-requires-clause-alone : goal.sweep-requires-clause-alone
sweep-requires-clause-alone g c = others_idle c.args.state.now c.open_sweep.new.state c.args.seat c.in-Ok.ensures.ok c.requires.closed

pub sweep-requires-clause-alone_too : goal.sweep-requires-clause-alone_too
sweep-requires-clause-alone_too g c = opens_alone g.O.OpClass.meaning c.args.state.now c.open_sweep.new.state c.args.seat c.in-Ok.ensures.ok

pub give_up-requires-clause-open : goal.give_up-requires-clause-open
give_up-requires-clause-open g c = not_free c.args.state.now c.open_sweep.new.state c.args.seat c.in-Ok.ensures.ok c.sweep.new.state c.in-Err.ensures.err

pub returns-in-Ok-sweep-clause-wrote : goal.returns-in-Ok-sweep-clause-wrote
returns-in-Ok-sweep-clause-wrote g c =
    vacuumed c.args.state.now c.open_sweep.new.state c.args.seat c.in-Ok.ensures.ok g.O.OpClass.meaning c.sweep.new.state c.in-Ok-sweep.swept c.requires.closed c.in-Ok-sweep.ensures.ok c.right.ensures

pub returns-in-Err-clause-wrote : goal.returns-in-Err-clause-wrote
returns-in-Err-clause-wrote g c =
    vacuumed_not c.args.state.now c.open_sweep.new.state c.args.seat c.in-Ok.ensures.ok c.sweep.new.state c.give_up.new.state c.requires.closed c.in-Err.ensures.err c.give_up.ensures.up

pub returns-in-Ok-sweep-clause-closed : goal.returns-in-Ok-sweep-clause-closed
returns-in-Ok-sweep-clause-closed g c =
    (vacuumed c.args.state.now c.open_sweep.new.state c.args.seat c.in-Ok.ensures.ok g.O.OpClass.meaning c.sweep.new.state c.in-Ok-sweep.swept c.requires.closed c.in-Ok-sweep.ensures.ok c.right.ensures).did.closed

pub returns-in-Err-clause-closed : goal.returns-in-Err-clause-closed
returns-in-Err-clause-closed g c =
    vacuumed_closed c.args.state.now c.give_up.new.state c.args.seat came.Memory
    (vacuumed_not c.args.state.now c.open_sweep.new.state c.args.seat c.in-Ok.ensures.ok c.sweep.new.state c.give_up.new.state c.requires.closed c.in-Err.ensures.err c.give_up.ensures.up) c.requires.closed
