use Rattle.std.proofs.Common.{◌≡◌, take}
use Rattle.spg_test_states.proofs.sections.clock.copied.Given as goal

abbrev pub invariant-loop-block : goal.invariant-loop-block
invariant-loop-block l = l.pages ≡ take l.block l.table.pages
