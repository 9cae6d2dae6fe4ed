use Rattle.spg_script.proofs.ReadLines.{not_in_lane, command_in_lane}
use Rattle.spg_script.proofs.blocks.Blocks.read_lane_command.Goals as goal

pub returns-in_default : goal.returns-in_default
returns-in_default c = not_in_lane c.args.self.now.class c.args.self.now.parts c.args.block c.args.line.now c.in_default.is c.requires.lane

pub returns-in_ok-push-in-Some : goal.returns-in_ok-push-in-Some
returns-in_ok-push-in-Some c =
    command_in_lane c.args.self.now.class c.args.self.now.parts c.in-InLane.ended c.args.block c.in-InLane.lane c.push.new.self c.in-Some.command c.args.line.now c.in-InLane.is c.in_ok-push-in-Some.ensures.ok
    (c.is_for_lanes.ensures.0 c.if-not-is_for_lanes.false) (rw c.in-Some.is at c.in_ok-command.ensures.found)
