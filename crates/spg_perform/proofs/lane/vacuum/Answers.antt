use Rattle.spg_share.specs.Seats.{knows}
use Rattle.spg_perform.proofs.LaneTold.{went_vacuum}
use Rattle.spg_perform.proofs.lane.vacuum.Goals as goal

pub returns-clause-went : goal.returns-clause-went
returns-clause-went g c = rw c.vacuum_record.ensures (went_vacuum g.O.OpClass.meaning g.O.Spoken.speech (knows c.args.seat.now) (knows c.vacuum-answer.new.self) c.vacuum-answer.result c.vacuum-answer.ensures.did)
