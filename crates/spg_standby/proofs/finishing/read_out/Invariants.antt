use Rattle.std.specs.Prelude.{◌≡◌, None}
use Rattle.spg_standby.specs.Pair.{IsPaired}
use Rattle.spg_standby.specs.Standing.{with_scan}
use Rattle.spg_standby.specs.Finding.{ReadsOn}
use Rattle.spg_standby.specs.Progress.{reads_left}
use Rattle.spg_standby.proofs.finishing.read_out.Given as goal

abbrev pub invariant-loop-seat : goal.invariant-loop-seat
invariant-loop-seat g l = IsPaired g.O.OpClass.meaning l.state l.follower l.queue.records.items × ReadsOn l.initial.follower l.follower l.seat × (with_scan l.follower l.seat None ≡ with_scan l.initial.follower l.seat None)

abbrev pub decreases-loop-seat : goal.decreases-loop-seat
decreases-loop-seat g l = reads_left g.O.OpClass.meaning l.follower l.seat
