use Rattle.std.proofs.Common.{◌≡◌}
use Rattle.spg_core.specs.Stage.{free}
use Rattle.spg_core.specs.Seen.{stage_at}
use Rattle.spg_test_states.proofs.sections.wide.fill_root.Given as goal

abbrev pub invariant-loop-number : goal.invariant-loop-number
invariant-loop-number g l = stage_at l.state 0 ≡ free
