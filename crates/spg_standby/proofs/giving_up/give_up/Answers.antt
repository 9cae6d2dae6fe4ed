use Rattle.std.proofs.Common.{refl}
use Rattle.spg_standby.proofs.Noting.{noted_leave}
use Rattle.spg_standby.proofs.giving_up.give_up.Goals as goal

pub returns-clause-pairs : goal.returns-clause-pairs
returns-clause-pairs g c = noted_leave g.O.OpClass.meaning c.args.state.now c.abandon.new.self c.args.queue.now.records.items c.args.queue.now.records.items c.note.new.queue.records.items refl c.note.ensures.items c.tells.ensures.tells c.tells-2.ensures.tells c.args.seat c.args.why c.abandon.ensures.up
