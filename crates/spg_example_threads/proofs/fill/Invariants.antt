use Rattle.std.proofs.Common.{◌≡◌}
use Rattle.spg_share.specs.Seats.{seat_name}
use Rattle.spg_example_threads.proofs.fill.Given as goal

abbrev pub invariant-loop-n : goal.invariant-loop-n
invariant-loop-n g l = seat_name l.seat ≡ seat_name l.initial.seat
