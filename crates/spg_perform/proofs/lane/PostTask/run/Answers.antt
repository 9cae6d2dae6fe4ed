use Rattle.std.proofs.Common.{◌≡◌, length, ◌∙◌, arith}
use Rattle.spg_share.specs.Seats.{knows}
use Rattle.spg_commands.proofs.Next.{IsNext}
use Rattle.spg_perform.proofs.LaneRuns.{went_next, went_count}
use Rattle.spg_perform.proofs.lane.PostTask.run.Goals as goal

pub push_reserved-requires : goal.push_reserved-requires
push_reserved-requires g c =
    let l = c.loop-command in
    let count : length l.self.records.items ≡ l.command-index =
    went_count g.O.OpClass.meaning g.O.Spoken.speech (knows c.args.seat.now) (knows l.seat) c.args.self.now.commands.now l.command-index l.self.records.items (omega (arith, c.loop-command-test.true)) l.invariant.went in
    omega (arith, count, l.self.records.ok.0, l.invariant.room, c.loop-command-test.true)

pub loop-command-preserved : goal.loop-command-preserved
loop-command-preserved g c =
    let l = c.loop-command in
    let commands = c.args.self.now.commands.now in
    let next : IsNext commands l.command-index c.command-item.result = record { within = c.loop-command-test.true; here = c.command-item.is } in
    record {
      same = c.lane_command-done.ensures.same ∙ l.invariant.same;
      room = omega (arith, c.push_reserved.ensures.capacity, l.invariant.room);
      went = rw c.push_reserved.ensures.items (went_next g.O.OpClass.meaning g.O.Spoken.speech (knows c.args.seat.now) (knows l.seat) (knows c.lane_command-done.new.seat) commands l.command-index
          l.self.records.items c.command-item.result c.lane_command-done.result next l.invariant.went c.lane_command-done.ensures.went);
    }
