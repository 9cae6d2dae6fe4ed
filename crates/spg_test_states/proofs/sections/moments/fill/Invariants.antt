use Rattle.std.proofs.Common.{◌≡◌}
use Rattle.spg_core.specs.Stage.{free}
use Rattle.spg_core.specs.Seen.{stage_at}
use Rattle.spg_test_states.proofs.sections.moments.fill.Given as goal

abbrev pub invariant-loop-index : goal.invariant-loop-index
invariant-loop-index g l = stage_at l.state 0 ≡ free
