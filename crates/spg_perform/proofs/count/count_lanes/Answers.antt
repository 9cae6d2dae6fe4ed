use Rattle.std.proofs.Common.{true, arith}
use Rattle.spg_perform.proofs.Tasks.{lanes_count}
use Rattle.spg_perform.proofs.count.count_lanes.Goals as goal

-- src/count.rt:12:5
pub loop-lane-preserved : goal.loop-lane-preserved
loop-lane-preserved c =
    let more = lanes_count 0 0 true c.args.lanes.now c.loop-lane.lane-index c.lane-item.result (omega arith) c.lane-item.is in
    omega (arith, more, c.loop-lane.invariant, c.len.ensures, c.in_ok-count.ensures)
