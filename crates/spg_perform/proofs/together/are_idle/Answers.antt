use Rattle.std.proofs.Common.{true, length, sym, arith}
use Rattle.std.proofs.lemmas.Bool.{ne_eqb}
use Rattle.spg_histories.specs.Tasks.{lanes_tasks}
use Rattle.spg_commands.proofs.Next.{IsNext}
use Rattle.spg_perform.proofs.BlocksTasks.{lanes_left}
use Rattle.spg_perform.proofs.Refusing.{filled, emptied}
use Rattle.spg_perform.proofs.together.are_idle.Goals as goal

pub returns-then-not-is_empty : goal.returns-then-not-is_empty
returns-then-not-is_empty c =
    let lanes = c.args.lanes.now in
    let next : IsNext lanes c.loop-lane.lane-index c.lane-item.result = record { within = c.loop-lane-test.true; here = c.lane-item.is } in
    sym (ne_eqb (length (lanes_tasks 0 0 true lanes)) 0 (λ e. omega (arith, e, lanes_left lanes c.loop-lane.lane-index c.lane-item.result next, c.loop-lane.invariant, filled c.lane-item.result c.is_empty.result c.is_empty.ensures c.if-not-is_empty.true)))

pub loop-lane-preserved : goal.loop-lane-preserved
loop-lane-preserved c =
    let lanes = c.args.lanes.now in
    let next : IsNext lanes c.loop-lane.lane-index c.lane-item.result = record { within = c.loop-lane-test.true; here = c.lane-item.is } in
    omega (arith, lanes_left lanes c.loop-lane.lane-index c.lane-item.result next, c.loop-lane.invariant, emptied c.lane-item.result c.is_empty.result c.is_empty.ensures c.if-not-is_empty.false)
