use Rattle.spg_share.specs.Seats.{knows}
use Rattle.spg_perform.proofs.LaneTold.{went_delete}
use Rattle.spg_perform.proofs.lane.delete.Goals as goal

pub returns-clause-went : goal.returns-clause-went
returns-clause-went g c = rw c.kill_record.ensures (went_delete g.O.OpClass.meaning g.O.Spoken.speech (knows c.args.seat.now) (knows c.delete-answer.new.self) c.args.row c.delete-answer.result c.delete-answer.ensures.did)
