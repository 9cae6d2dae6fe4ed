use Rattle.std.proofs.Common.{◌≡◌, ◌+◌, ◌++◌}
use Rattle.spg_perform.specs.Lanes.{refusals}
use Rattle.spg_perform.proofs.together.refuse_lane.Given as goal

abbrev pub invariant-loop : goal.invariant-loop
invariant-loop l = record {
  records : l.book.records ≡ l.fn.book.records ++ refusals l.at l.counter;
  room : l.book.spare + l.counter ≡ l.fn.book.spare;
}
