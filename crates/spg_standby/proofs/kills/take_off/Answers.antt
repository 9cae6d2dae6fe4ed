use Rattle.std.proofs.Common.{subst}
use Rattle.spg_core.specs.Sections.{KillsRow}
use Rattle.spg_whole.proofs.Killing.{deletes}
use Rattle.spg_standby.proofs.Noting.{noted_kill}
use Rattle.spg_standby.proofs.kills.take_off.Goals as goal

pub kill-requires : goal.kill-requires
kill-requires g c = record { free = c.none_open.ensures c.requires.closed }

pub returns-then-killed-clause-pairs : goal.returns-then-killed-clause-pairs
returns-then-killed-clause-pairs g c =
    let K = subst (λ (b : _). KillsRow c.args.state.now c.kill.new.self c.args.seat c.args.row b) c.if-killed.true c.in_ok-killed.ensures.ok in
    noted_kill g.O.OpClass.meaning c.args.state.now c.kill.new.self c.args.queue.now.records.items c.ready.new.queue.records.items c.note.new.queue.records.items c.ready.ensures.items c.note.ensures.items c.tells.ensures.tells c.tells-then-killed.ensures.tells c.args.seat c.args.row K

pub returns-then-killed-clause-ok : goal.returns-then-killed-clause-ok
returns-then-killed-clause-ok g c = deletes g.O.OpClass.meaning c.args.state.now c.kill.new.self c.args.seat c.args.row c.in_ok-killed.killed c.requires.closed c.in_ok-killed.ensures.ok c.right.ensures

pub returns-else-killed-clause-ok : goal.returns-else-killed-clause-ok
returns-else-killed-clause-ok g c = deletes g.O.OpClass.meaning c.args.state.now c.kill.new.self c.args.seat c.args.row c.in_ok-killed.killed c.requires.closed c.in_ok-killed.ensures.ok c.right.ensures
