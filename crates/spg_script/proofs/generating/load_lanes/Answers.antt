use Rattle.std.proofs.Common.{arith}
use Rattle.spg_script.proofs.Loads.{lanes_more, lanes_all}
use Rattle.spg_script.proofs.generating.load_lanes.Goals as goal

pub loop-l-preserved : goal.loop-l-preserved
loop-l-preserved c =
    lanes_more c.args.class c.args.count c.args.seed c.args.lanes c.loop-l.l c.loop-l.made c.push.new.self c.in_ok-load_lane.field-0 c.loop-l.invariant c.in_ok-load_lane.ensures c.in_ok-push.ensures.ok

pub returns : goal.returns
returns c =
    lanes_all c.args.class c.args.count c.args.seed c.args.lanes c.loop-l.l c.loop-l.made c.push-2.new.self c.in_ok-watching_lane.field-0 (omega (arith, c.loop-l-test.false)) c.loop-l.invariant c.in_ok-watching_lane.ensures c.in_ok-push-2.ensures.ok
