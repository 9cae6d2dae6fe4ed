use Rattle.std.proofs.Common.{◌≡◌, ◌<◌, refl, ◌∙◌, subst, arith}
use Rattle.spg_tree.specs.Table.{sheets_of}
use Rattle.spg_forest.specs.Shape.{Shape}
use Rattle.spg_standby.specs.Slots.{SlotHeld}
use Rattle.spg_standby.specs.Standing.{scan_at, held_in}
use Rattle.spg_standby.proofs.Standings.{slot_held}
use Rattle.spg_standby.proofs.Finding.{is_read, open_still, reads_more, read_once, scanned, without_scan}
use Rattle.spg_standby.proofs.Progress.{fewer_left}
use Rattle.spg_standby.proofs.finishing.read_out.Goals as goal

pub returns-then-held-eq0-clause-read : goal.returns-then-held-eq0-clause-read
returns-then-held-eq0-clause-read g c =
    let f = c.loop-seat.follower in
    is_read (scan_at f c.args.seat) (open_still c.args.follower.now f c.args.seat c.loop-seat.invariant.1 c.requires.scans) (let a = c.held.ensures in let b = c.if-held-eq0.true in omega arith)

pub loop-seat-preserved : goal.loop-seat-preserved
loop-seat-preserved g c =
    let m = g.O.OpClass.meaning in
    let f = c.loop-seat.follower in let f2 = c.read.new.self in
    let (slot, reads, is) = c.in_ok-read.ensures.ok in (
      scanned m c.args.state.now f c.args.queue.now.records.items c.loop-seat.invariant.0 c.args.seat slot f2 is c.in_ok-read.ensures.stands,
      reads_more c.args.follower.now f f2 c.args.seat c.loop-seat.invariant.1 (read_once m f f2 c.args.seat 0 c.in_ok-read.ensures.ok),
      without_scan f f2 c.args.seat slot is ∙ c.loop-seat.invariant.2,
    )

pub loop-seat-smaller : goal.loop-seat-smaller
loop-seat-smaller g c =
    let m = g.O.OpClass.meaning in
    let f = c.loop-seat.follower in let f2 = c.read.new.self in
    let stands = c.loop-seat.invariant.0.stands in
    let H : Shape m (sheets_of f.table) = stands.holds.holds.shape in
    let some : 0 < held_in (scan_at f c.args.seat) = (let a = c.held.ensures in let b = c.if-held-eq0.false in omega arith) in
    let shelter : SlotHeld m (sheets_of f.table) (scan_at f c.args.seat) 0 = slot_held m f c.args.seat 0 (scan_at f c.args.seat) refl (c.args.state.now.journal, stands) some in
    fewer_left m f f2 c.args.seat 0 H shelter c.in_ok-read.ensures.ok
