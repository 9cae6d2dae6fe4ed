use Rattle.std.proofs.Common.{sym, ◌∙◌}
use Rattle.spg_share.specs.Seats.{knows}
use Rattle.spg_perform.proofs.LaneTold.{went_insert}
use Rattle.spg_perform.proofs.lane.insert.Goals as goal

pub returns-clause-went : goal.returns-clause-went
returns-clause-went g c =
    rw c.insert_record.ensures (went_insert g.O.OpClass.meaning g.O.Spoken.speech (knows c.args.seat.now) (knows c.insert-answer.new.self) c.args.row c.args.key.now c.in-Ok-Some.key c.insert-answer.result (sym c.in-Ok-Some.ensures ∙ c.in-Ok-Some.field-0-is) c.insert-answer.ensures.did)
