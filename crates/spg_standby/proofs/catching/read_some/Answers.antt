use Rattle.std.proofs.Common.{◌≡◌, ◌<◌, None, get_or, refl, sym, ap, subst, arith}
use Rattle.spg_tree.specs.Table.{sheets_of}
use Rattle.spg_forest.specs.Shape.{Shape}
use Rattle.spg_standby.specs.Slots.{SlotHeld}
use Rattle.spg_standby.specs.Standing.{Standing, scan_at, held_in}
use Rattle.spg_standby.specs.Finding.{ReadsOn}
use Rattle.spg_standby.specs.Progress.{reads_left}
use Rattle.spg_standby.proofs.Standings.{slot_held}
use Rattle.spg_standby.proofs.Finding.{is_read, open_still, reads_more, same_scans, read_once, scanned}
use Rattle.spg_standby.proofs.Progress.{fewer_left}
use Rattle.spg_standby.proofs.catching.read_some.Goals as goal

pub returns-then-held-eq0-clause-read : goal.returns-then-held-eq0-clause-read
returns-then-held-eq0-clause-read g c = λ read.
    let f = c.loop-seat.follower in
    is_read (scan_at f c.args.seat) (open_still c.args.follower.now f c.args.seat c.loop-seat.invariant.1 c.requires.scans) (let a = c.held.ensures in let b = c.if-held-eq0.true in omega arith)

pub returns-in_err-went-clause-keeps : goal.returns-in_err-went-clause-keeps
returns-in_err-went-clause-keeps g c =
    let f = c.loop-seat.follower in let f2 = c.apply_oldest.new.follower in
    reads_more c.args.follower.now f f2 c.args.seat c.loop-seat.invariant.1 (same_scans f f2 c.args.seat c.apply_oldest.ensures.scans)

pub returns-in_err-read-clause-keeps : goal.returns-in_err-read-clause-keeps
returns-in_err-read-clause-keeps g c =
    let f = c.loop-seat.follower in let f2 = c.apply_oldest.new.follower in
    subst (λ (x : Standing _ _ _ _). ReadsOn c.args.follower.now x c.args.seat) (sym c.in_err-read.ensures.err)
    (reads_more c.args.follower.now f f2 c.args.seat c.loop-seat.invariant.1 (same_scans f f2 c.args.seat c.apply_oldest.ensures.scans))

pub returns-then-went-clause-paired : goal.returns-then-went-clause-paired
returns-then-went-clause-paired g c =
    let m = g.O.OpClass.meaning in
    let f2 = c.apply_oldest.new.follower in let f3 = c.read.new.self in
    let (slot, reads, is) = c.in_ok-read.ensures.ok in
    scanned m c.args.state.now f2 c.apply_oldest.new.queue.records.items c.apply_oldest.ensures.paired c.args.seat slot f3 is c.in_ok-read.ensures.stands

pub returns-then-went-clause-keeps : goal.returns-then-went-clause-keeps
returns-then-went-clause-keeps g c =
    let m = g.O.OpClass.meaning in
    let f = c.loop-seat.follower in let f2 = c.apply_oldest.new.follower in let f3 = c.read.new.self in
    reads_more c.args.follower.now f2 f3 c.args.seat (reads_more c.args.follower.now f f2 c.args.seat c.loop-seat.invariant.1 (same_scans f f2 c.args.seat c.apply_oldest.ensures.scans)) (read_once m f2 f3 c.args.seat 0 c.in_ok-read.ensures.ok)

pub returns-then-went-clause-went : goal.returns-then-went-clause-went
returns-then-went-clause-went g c = λ no. (let a = c.in_ok-went.ensures.went c.if-went.true in let b = c.loop-seat.invariant.2 in omega arith)

pub loop-seat-preserved : goal.loop-seat-preserved
loop-seat-preserved g c =
    let m = g.O.OpClass.meaning in
    let f = c.loop-seat.follower in let f2 = c.apply_oldest.new.follower in let f3 = c.read.new.self in
    let (slot, reads, is) = c.in_ok-read.ensures.ok in (
      scanned m c.args.state.now f2 c.apply_oldest.new.queue.records.items c.apply_oldest.ensures.paired c.args.seat slot f3 is c.in_ok-read.ensures.stands,
      reads_more c.args.follower.now f2 f3 c.args.seat (reads_more c.args.follower.now f f2 c.args.seat c.loop-seat.invariant.1 (same_scans f f2 c.args.seat c.apply_oldest.ensures.scans)) (read_once m f2 f3 c.args.seat 0 c.in_ok-read.ensures.ok),
      (let a = c.apply_oldest.ensures.len in let b = c.loop-seat.invariant.2 in omega arith),
    )

pub loop-seat-smaller : goal.loop-seat-smaller
loop-seat-smaller g c =
    let m = g.O.OpClass.meaning in
    let f = c.loop-seat.follower in let f2 = c.apply_oldest.new.follower in let f3 = c.read.new.self in
    let stands = c.apply_oldest.ensures.paired.stands in
    let H : Shape m (sheets_of f2.table) = stands.holds.holds.shape in
    let same = c.apply_oldest.ensures.scans in
    let held : held_in (scan_at f2 c.args.seat) ≡ held_in (scan_at f c.args.seat) = ap (λ xs. held_in (get_or xs c.args.seat None)) same in
    let some : 0 < held_in (scan_at f2 c.args.seat) = (let a = c.held.ensures in let b = c.if-held-eq0.false in omega arith) in
    let shelter : SlotHeld m (sheets_of f2.table) (scan_at f2 c.args.seat) 0 = slot_held m f2 c.args.seat 0 (scan_at f2 c.args.seat) refl (c.args.state.now.journal, stands) some in
    subst (λ (x : Standing _ _ _ _). reads_left m f3 c.args.seat < reads_left m x c.args.seat) (c.in_ok-went.ensures.stays c.if-went.false) (fewer_left m f2 f3 c.args.seat 0 H shelter c.in_ok-read.ensures.ok)
