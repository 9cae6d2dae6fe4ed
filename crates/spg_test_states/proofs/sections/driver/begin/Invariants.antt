use Rattle.spg_core.specs.Stage.{IsInserting}
use Rattle.spg_core.specs.Seen.{stage_at}
use Rattle.spg_test_states.proofs.sections.driver.begin.Given as goal

abbrev pub invariant-loop : goal.invariant-loop
invariant-loop g l = IsInserting (stage_at l.state 0)
