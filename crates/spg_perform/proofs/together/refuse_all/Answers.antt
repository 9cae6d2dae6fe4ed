use Rattle.std.proofs.Common.{◌+◌, true, length, take, arith}
use Rattle.spg_histories.specs.Tasks.{lanes_tasks}
use Rattle.spg_perform.proofs.Tasks.{lanes_count}
use Rattle.spg_perform.proofs.Refusing.{refused_lane, taken_count}
use Rattle.spg_perform.proofs.together.refuse_all.Goals as goal

pub refuse_lane-requires : goal.refuse_lane-requires
refuse_lane-requires c =
    let lanes = c.args.lanes.now in
    let more = lanes_count 0 0 true lanes c.loop-lane.lane-index c.lane-item.result c.loop-lane-test.true c.lane-item.is in
    record { room = omega (arith, more, c.loop-lane.invariant.room, c.len.ensures, c.requires.room, taken_count lanes (c.loop-lane.lane-index + 1)) }

pub loop-lane-preserved : goal.loop-lane-preserved
loop-lane-preserved c =
    let lanes = c.args.lanes.now in
    let more = lanes_count 0 0 true lanes c.loop-lane.lane-index c.lane-item.result c.loop-lane-test.true c.lane-item.is in
    let before = length (lanes_tasks 0 0 true (take c.loop-lane.lane-index lanes)) in
    let all = length (lanes_tasks 0 0 true (take (c.loop-lane.lane-index + 1) lanes)) in
    record {
      records = refused_lane c.args.at before c.len.result all c.args.book.now.records c.loop-lane.book.records c.refuse_lane.new.book.records c.loop-lane.invariant.records c.refuse_lane.ensures.records (omega (arith, more, c.len.ensures));
      room = omega (arith, more, c.len.ensures, c.loop-lane.invariant.room, c.refuse_lane.ensures.room);
    }
