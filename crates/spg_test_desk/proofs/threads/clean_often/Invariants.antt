use Rattle.std.proofs.Common.{◌≡◌}
use Rattle.spg_share.specs.Seats.{seat_name}
use Rattle.spg_test_desk.proofs.threads.clean_often.Given as goal

abbrev pub invariant-loop : goal.invariant-loop
invariant-loop g l = seat_name l.seat ≡ seat_name l.initial.seat
