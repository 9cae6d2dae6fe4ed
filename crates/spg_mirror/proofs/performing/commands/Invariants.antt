use Rattle.std.proofs.Common.{◌≤◌, ◌+◌, length, take}
use Rattle.spg_mirror.specs.Mirrored.{commands_tasks, LeadsTo}
use Rattle.spg_mirror.proofs.performing.commands.Given as goal

abbrev pub invariant-loop-one : goal.invariant-loop-one
invariant-loop-one g l = record {
  leads : LeadsTo g.O.OpClass.meaning g.O.Spoken.speech l.initial.pair l.fn.book.records l.pair l.book.records (commands_tasks 0 (take l.one-index l.commands));
  room : length l.commands ≤ l.one-index + l.book.spare;
}
