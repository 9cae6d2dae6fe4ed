use Rattle.std.proofs.Common.{refl, rules, arith}
use Rattle.spg_whole.proofs.Sections.{IsOpen, sweeps_nothing, sweeps_further, sweeps_out, still_alone, latched_by}
use Rattle.spg_whole.proofs.Ending.{GoesOn, alone_further}
use Rattle.spg_standby.proofs.Noting.{noted_vacuum}
use Rattle.spg_standby.proofs.vacuums.sweep.Goals as goal

pub loop-room-init : goal.loop-room-init
loop-room-init g c = record {
  paired = c.requires.paired;
  idle = c.requires.idle;
  place = c.requires.place;
  lag = refl;
  sweeps = record { sweeps = sweeps_nothing c.args.state.now c.args.seat; alone = c.requires.alone_too };
}

pub returns-in-Finished-clause-paired : goal.returns-in-Finished-clause-paired
returns-in-Finished-clause-paired g c =
    noted_vacuum g.O.OpClass.meaning c.loop-room.state c.vacuum_step.new.self c.follow.new.standby.queue.records.items c.ready.new.queue.records.items c.note.new.queue.records.items c.ready.ensures.items c.note.ensures.items c.tells.ensures.tells c.tells-in-loop-room.ensures.tells c.args.seat c.in_ok-out.out c.tells.ensures.fits c.in_ok-out.ensures.ok c.vacuum_step.ensures.grows c.follow.new.standby.follower c.follow.ensures.paired

pub returns-in-Finished-clause-ok : goal.returns-in-Finished-clause-ok
returns-in-Finished-clause-ok g c = sweeps_out c.args.state.now c.loop-room.state c.vacuum_step.new.self c.args.seat c.in_ok-out.out c.in-Finished.swept c.loop-room.invariant.sweeps.sweeps c.in_ok-out.ensures.ok c.vacuum_step.ensures.grows c.in-Finished.is

pub unreachable-requires : goal.unreachable-requires
unreachable-requires g c =
    let more : IsOpen c.in_ok-out.out = λ n is. absurd (cc (c.in-Latched.is, is)) in
    let (latched, other) = latched_by c.loop-room.state c.vacuum_step.new.self c.args.seat c.in_ok-out.out c.in-Latched.block c.in-Latched.by c.in_ok-out.ensures.ok c.in-Latched.is c.vacuum_step.ensures.others in
    other (c.only_own.ensures (still_alone c.args.state.now c.vacuum_step.new.self c.args.seat c.requires.alone
    (sweeps_further c.args.state.now c.loop-room.state c.vacuum_step.new.self c.args.seat c.in_ok-out.out c.loop-room.invariant.sweeps.sweeps c.in_ok-out.ensures.ok c.vacuum_step.ensures.grows more)) latched)

pub loop-room-preserved-in-Block-1 : goal.loop-room-preserved-in-Block-1
loop-room-preserved-in-Block-1 g c =
    let more : IsOpen c.in_ok-out.out = λ n is. search rules in
    let goes : GoesOn c.in_ok-out.out = (more, λ block by is. search rules) in
    record {
      paired = noted_vacuum g.O.OpClass.meaning c.loop-room.state c.vacuum_step.new.self c.follow.new.standby.queue.records.items c.ready.new.queue.records.items c.note.new.queue.records.items c.ready.ensures.items c.note.ensures.items c.tells.ensures.tells c.tells-in-loop-room.ensures.tells c.args.seat c.in_ok-out.out c.tells.ensures.fits c.in_ok-out.ensures.ok c.vacuum_step.ensures.grows c.follow.new.standby.follower c.follow.ensures.paired;
      idle = c.follow.ensures.idle;
      place = (let a = c.note.ensures.len in let b = c.note.ensures.capacity in let d = c.in_ok-room.ensures.places in omega arith);
      lag = search rules;
      sweeps = record {
        sweeps = sweeps_further c.args.state.now c.loop-room.state c.vacuum_step.new.self c.args.seat c.in_ok-out.out c.loop-room.invariant.sweeps.sweeps c.in_ok-out.ensures.ok c.vacuum_step.ensures.grows more;
        alone = (alone_further g.O.OpClass.meaning c.loop-room.state c.vacuum_step.new.self c.args.seat c.in_ok-out.out c.tells.ensures.tells.holds.shape c.in_ok-out.ensures.ok c.loop-room.invariant.sweeps.alone goes).0;
      };
    }

pub loop-room-smaller-in-Block-1 : goal.loop-room-smaller-in-Block-1
loop-room-smaller-in-Block-1 g c =
    let more : IsOpen c.in_ok-out.out = λ n is. search rules in
    let goes : GoesOn c.in_ok-out.out = (more, λ block by is. search rules) in
    (alone_further g.O.OpClass.meaning c.loop-room.state c.vacuum_step.new.self c.args.seat c.in_ok-out.out c.tells.ensures.tells.holds.shape c.in_ok-out.ensures.ok c.loop-room.invariant.sweeps.alone goes).1
