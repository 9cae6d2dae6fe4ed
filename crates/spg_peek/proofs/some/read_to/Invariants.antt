use Rattle.std.proofs.Common.{◌≡◌}
use Rattle.spg_tree.specs.Table.{sheets_of}
use Rattle.spg_core.specs.Stage.{reading}
use Rattle.spg_whole.specs.Underway.{reads_left}
use Rattle.spg_peek.specs.Peeking.{IsScanNow, Begins}
use Rattle.spg_peek.proofs.some.read_to.Given as goal

abbrev pub invariant-loop-alloc : goal.invariant-loop-alloc
invariant-loop-alloc g l = record {
  now : IsScanNow g.O.OpClass.meaning l.state l.scan;
  query : l.scan.query ≡ l.initial.scan.query;
  same : l.found.items ≡ l.scan.rows;
  more : Begins l.initial.scan.rows l.scan.rows;
}

abbrev pub decreases-loop-alloc : goal.decreases-loop-alloc
decreases-loop-alloc g l = reads_left g.O.OpClass.meaning (sheets_of l.state.table) (reading l.scan)
