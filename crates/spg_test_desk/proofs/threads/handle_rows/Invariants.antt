use Rattle.std.proofs.Common.{◌≡◌}
use Rattle.spg_share.specs.Seats.{seat_name}
use Rattle.spg_test_desk.proofs.threads.handle_rows.Given as goal

abbrev pub invariant-loop-number : goal.invariant-loop-number
invariant-loop-number g l = seat_name l.seat ≡ seat_name l.initial.seat
