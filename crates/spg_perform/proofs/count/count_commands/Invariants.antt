use Rattle.std.proofs.Common.{◌≡◌, length, take}
use Rattle.spg_histories.specs.Tasks.{parts_tasks}
use Rattle.spg_perform.proofs.count.count_commands.Given as goal

abbrev pub invariant-loop-block : goal.invariant-loop-block
invariant-loop-block l = l.count ≡ length (parts_tasks 0 (take l.block-index l.blocks))
