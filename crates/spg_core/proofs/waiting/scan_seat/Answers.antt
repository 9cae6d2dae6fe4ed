use Rattle.std.proofs.Common.{◌<◌, length, sym, ◌∙◌, arith}
use Rattle.spg_seats.specs.Waiting.{reads_at}
use Rattle.spg_core.proofs.Seeking.{seat_from, first_found, none_more, none_of_all}
use Rattle.spg_core.proofs.waiting.scan_seat.Goals as goal

pub returns-then-is_scan_before : goal.returns-then-is_scan_before
returns-then-is_scan_before g c =
    let low : c.loop-number.number < 64 = omega (arith, c.loop-number.auto.number-end, c.loop-number-test.true) in
    let there : c.loop-number.number < length c.args.slots.now = omega (arith, c.requires, low) in
    seat_from c.new.result c.loop-number.number c.new.ensures.none c.new.ensures.some low
    ∙ sym (first_found (reads_at c.args.at) c.args.slots.now c.loop-number.number c.index-slots-number.result there c.index-slots-number.is c.loop-number.invariant.0 (sym c.is_scan_before.ensures ∙ c.if-is_scan_before.true) 64 low)

pub loop-number-preserved : goal.loop-number-preserved
loop-number-preserved g c =
    let low : c.loop-number.number < 64 = omega (arith, c.loop-number.auto.number-end, c.loop-number-test.true) in
    let there : c.loop-number.number < length c.args.slots.now = omega (arith, c.requires, low) in (
      none_more (reads_at c.args.at) c.args.slots.now c.loop-number.number c.index-slots-number.result there c.index-slots-number.is c.loop-number.invariant.0 (sym c.is_scan_before.ensures ∙ c.if-is_scan_before.false),
      omega (arith, low),
    )

pub returns : goal.returns
returns g c = none_of_all (reads_at c.args.at) c.args.slots.now c.loop-number.number c.loop-number.invariant.0 (omega (arith, c.loop-number.invariant.1, c.loop-number-test.false))
