use Rattle.std.proofs.Common.{◌≤◌}
use Rattle.spg_page.specs.Layout.{begin_at, size_at}
use Rattle.spg_page.specs.Covers.{ArePlaced}
use Rattle.spg_page.proofs.bounds.are_descending.Given as goal

abbrev pub invariant-loop-index : goal.invariant-loop-index
invariant-loop-index l = record {
  placed : ArePlaced (begin_at l.bytes) (size_at l.bytes) l.index l.end;
  below : l.end ≤ 8184;
}
