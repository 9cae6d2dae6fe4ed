use Rattle.std.proofs.Common.{◌≤◌, drop}
use Rattle.spg_create.proofs.Kept.{KeptSoFar}
use Rattle.spg_create.proofs.keeping.keep_each_row_once.Given as goal

abbrev pub invariant-loop-index : goal.invariant-loop-index
invariant-loop-index g l = record {
  so_far : KeptSoFar g.O.Spoken.speech l.inserts (drop l.index l.inserts) l.kept l.skipped;
  few : l.skipped ≤ l.index;
}
