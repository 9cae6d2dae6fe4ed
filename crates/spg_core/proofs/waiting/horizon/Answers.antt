use Rattle.std.proofs.Common.{◌<◌, length, map, sym, ap, ◌∙◌, arith}
use Rattle.spg_seats.specs.Slots.{stamp_of, least, horizon_of}
use Rattle.spg_core.specs.Slot.{stage_of}
use Rattle.spg_core.proofs.Seeking.{horizon_next, taken_less, kept_less}
use Rattle.spg_core.proofs.waiting.horizon.Goals as goal
use Rattle.spg_core.proofs.waiting.horizon.Goals.{in-Some, in_default-2, in_default}

pub loop-slot-preserved : goal.loop-slot-preserved
loop-slot-preserved g c =
    let there : c.loop-slot.slot-index < length c.args.slots.now = omega (arith, c.loop-slot.auto.slot-index-end, c.loop-slot-test.true) in (
      horizon_next c.args.slots.now c.loop-slot.slot-index c.loop-slot.least c.match-open_stamp.least (horizon_of (map stage_of c.args.slots.now) c.args.stamp) c.slot-item.result there c.slot-item.is (elim c.match-open_stamp.branch [
        | in-Some w ↦ taken_less (stamp_of (stage_of c.slot-item.result)) w.in-Some.opened c.loop-slot.least c.match-open_stamp.least (sym c.open_stamp.ensures ∙ w.in-Some.is) (sym w.lt.ensures ∙ w.if-lt.true) w.least-is
        | in_default-2 w ↦ kept_less (stamp_of (stage_of c.slot-item.result)) w.in-Some.opened c.loop-slot.least c.match-open_stamp.least (sym c.open_stamp.ensures ∙ w.in-Some.is) (sym w.lt.ensures ∙ w.if-lt.false) w.least-is
        | in_default w ↦ w.least-is ∙ sym (ap (λ x. least x c.loop-slot.least) (sym c.open_stamp.ensures ∙ w.in_default.is))
      ]) c.loop-slot.invariant.0,
      omega (arith, there),
    )
