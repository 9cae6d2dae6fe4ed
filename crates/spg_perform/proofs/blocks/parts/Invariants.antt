use Rattle.std.proofs.Common.{◌≤◌, length, take, drop}
use Rattle.spg_core.specs.Seen.{past_of}
use Rattle.spg_histories.specs.Tasks.{parts_tasks}
use Rattle.spg_perform.specs.Session.{AllClosed, LeadsOn, standing}
use Rattle.spg_perform.proofs.blocks.parts.Given as goal

abbrev pub invariant-loop-block : goal.invariant-loop-block
invariant-loop-block g l = record {
  leads : LeadsOn g.O.OpClass.meaning g.O.Spoken.speech g.O.OpClass.code_number
      (standing l.initial.state (g.M.Images.held l.fn.images) (g.M.Images.faults l.fn.images) l.fn.book.records)
      (standing l.state (g.M.Images.held l.images) (g.M.Images.faults l.images) l.book.records)
      (parts_tasks 0 (take l.block-index l.blocks));
  closed : AllClosed (past_of l.state);
  room : length (parts_tasks 0 (drop l.block-index l.blocks)) ≤ l.book.spare;
}
