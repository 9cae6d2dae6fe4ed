use Rattle.std.proofs.Common.{◌≡◌}
use Rattle.spg_build.specs.Gathered.{AreFirst}
use Rattle.spg_build.proofs.gather.FirstRows.catch_up.Given as goal

abbrev pub invariant-loop-index : goal.invariant-loop-index
invariant-loop-index g l = record {
  count : l.self.count ≡ l.index;
  first : AreFirst l.self.rows.rows l.self.count l.entries;
}
