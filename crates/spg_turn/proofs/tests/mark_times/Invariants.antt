use Rattle.std.proofs.Common.{◌≡◌}
use Rattle.spg_turn.specs.Passes.{turn_id, pass_turn}
use Rattle.spg_turn.proofs.tests.mark_times.Given as goal

abbrev pub invariant-loop : goal.invariant-loop
invariant-loop g l = pass_turn l.pass ≡ turn_id l.turn
