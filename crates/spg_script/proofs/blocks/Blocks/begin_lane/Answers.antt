use Rattle.std.proofs.Common.{arith}
use Rattle.spg_script.specs.Steps.{lanes_of}
use Rattle.spg_script.proofs.ReadLines.{lane_begins}
use Rattle.spg_script.proofs.blocks.Blocks.begin_lane.Goals as goal

pub returns : goal.returns
returns c = lane_begins c.args.self.now.class c.args.self.now.parts (lanes_of c.args.block) c.in_ok-ended.ended c.new.result c.in_ok-ended.ensures c.new.ensures (omega arith)
