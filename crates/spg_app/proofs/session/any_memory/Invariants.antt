use Rattle.std.proofs.Common.{◌≡◌, drop}
use Rattle.spg_histories.specs.Ending.{any_outcome, is_memory}
use Rattle.spg_app.proofs.session.any_memory.Given as goal

-- no record so far has it
abbrev pub invariant-loop-one : goal.invariant-loop-one
invariant-loop-one l = any_outcome is_memory l.records ≡ any_outcome is_memory (drop l.one-index l.records)
