use Rattle.std.proofs.Common.{◌≡◌}
use Rattle.spg_core.specs.Stage.{free}
use Rattle.spg_core.specs.Seen.{stage_at}
use Rattle.spg_test_states.proofs.sections.wide.widen_all.Given as goal

abbrev pub invariant-loop-upper : goal.invariant-loop-upper
invariant-loop-upper g l = stage_at l.state 0 ≡ free
